use Rattle.std.proofs.Common.{[], ap, ◌∙◌}
use Rattle.std.proofs.lemmas.List.{take_all}
use Rattle.std.specs.List.{flat_map}
use Rattle.bridge_core.specs.inner.Control.{member_reports}
use Rattle.bridge_core.proofs.Told.{one_more}
use Rattle.bridge_core.proofs.reporting.Reporting.all.Goals as goal

pub loop-member-preserved : goal.loop-member-preserved
loop-member-preserved g c = λ before left.
    one_more (member_reports c.args.self.now before) [] c.members-member-items.result.now c.loop-member.member-index _ _
    _ c.loop-member-test.true (c.loop-member.invariant before left) (c.in_ok-tell_member.ensures before left)

pub returns : goal.returns
returns g c = λ before left.
    c.loop-member.invariant before left
    ∙ ap (flat_map (member_reports c.args.self.now before)) (take_all c.loop-member.member-index
    c.members-member-items.result.now c.loop-member-test.false
    ∙ c.members-member-items.ensures.members)
