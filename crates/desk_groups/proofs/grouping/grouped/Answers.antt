use Rattle.std.specs.Prelude.{◌≡◌, ◌<◌, ◌≤◌, length, List}
use Rattle.std.proofs.Common.{sym, ap, ◌∙◌, subst, arith}
use Rattle.desk_edit.specs.declared.command.Command.{Command}
use Rattle.desk_groups.specs.Making.{made_limit, lists_of}
use Rattle.desk_groups.specs.inner.Cutting.{SoFar}
use Rattle.desk_groups.proofs.Groups.{one_more}
use Rattle.desk_groups.proofs.grouping.grouped.Goals as goal

pub loop-rest-preserved : goal.loop-rest-preserved
loop-rest-preserved g c =
    let left = c.loop-rest.rest.now in
    let these = c.split_at.result.0.now in
    let later = c.split_at.result.1.now in
    let some : 0 < length left = (let t = c.loop-rest-test.true in let e = c.is_empty.ensures in grind (arith, t, e)) in
    let sized = c.group_size.ensures in
    let long : length these ≡ c.group_size.result = c.split_at.ensures.front_len in
    let own : 0 < length these = (let s = sized.some some in omega (arith, long, s)) in
    let few : length these ≤ made_limit = (let s = sized.few.1 in omega (arith, long, s)) in
    let full : 0 < length later → length these ≡ made_limit = λ more.
    long ∙ sized.full (let back = c.split_at.ensures.back_len in omega (arith, more, back)) in
    subst (λ (gs : List (List Command)). SoFar c.args.commands.now gs later) (sym c.in_ok-append_group.ensures)
    (one_more c.args.commands.now (lists_of c.loop-rest.groups.items) left these later c.loop-rest.invariant
    c.split_at.ensures.by_index.0 some own few full)
