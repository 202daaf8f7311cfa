use Rattle.std.proofs.Common.{List, ap, subst, ◌∙◌}
use Rattle.std.specs.Prelude.{filter_map}
use Rattle.std.proofs.lemmas.List.{take_all}
use Rattle.ingress.specs.Sources.{Origin}
use Rattle.media_front.specs.inner.Origins.{origin_in}
use Rattle.media_front.proofs.WaitLemmas.{origins_by_rows}
use Rattle.event_loop.specs.Traced.{AreWaits}
use Rattle.event_loop.proofs.TraceLemmas.{traces_more}
use Rattle.event_loop.proofs.trace.FrontTrace.tell_each_wait.Goals as goal

pub loop-row-preserved : goal.loop-row-preserved
loop-row-preserved c =
    traces_more c.args.moment (origin_in c.args.rows.now) c.others_of-row-items.result.now c.loop-row.row-index _
    c.args.self.now c.loop-row.self c.tell_wait.new.self
    c.loop-row-test.true c.loop-row.invariant c.tell_wait.ensures

pub returns : goal.returns
returns c =
    let desk = c.args.rows.now in
    let all =
    take_all c.loop-row.row-index c.others_of-row-items.result.now c.loop-row-test.false
    ∙ c.others_of-row-items.ensures.rows in
    subst (λ (os : List Origin). AreWaits c.args.moment os c.args.self.now c.loop-row.self)
    (ap (filter_map (origin_in desk)) all ∙ origins_by_rows desk)
    c.loop-row.invariant
