use Rattle.std.proofs.Common.{List, ap, subst, ◌∙◌}
use Rattle.std.specs.Prelude.{filter_map}
use Rattle.std.proofs.lemmas.List.{take_all}
use Rattle.ingress.specs.Sources.{Origin}
use Rattle.media_front.specs.Fronts.{FrontOf}
use Rattle.media_front.specs.Waits.{HaveWaited, HaveWaitedInPart}
use Rattle.media_front.specs.inner.Origins.{origin_in}
use Rattle.media_front.proofs.WaitLemmas.{on_err, origins_by_rows, waits_more, waits_in_part}
use Rattle.media_front.proofs.front.MediaFront.wait_all.Goals as goal

pub returns-in_err-wait_row-clause-err : goal.returns-in_err-wait_row-clause-err
returns-in_err-wait_row-clause-err g c =
    let desk = c.args.rows.now in
    let rows = c.others_of-row-items.result.now in
    let before = g.W.Wire.attempts c.args.wire.now in
    let after = g.W.Wire.attempts c.wait_row.new.wire in
    on_err c.from_residual.result
    (subst (λ (os : List Origin). HaveWaitedInPart desk c.args.now os c.args.self.now c.wait_row.new.self before after)
    (ap (filter_map (origin_in desk)) c.others_of-row-items.ensures.rows ∙ origins_by_rows desk)
    (waits_in_part desk c.args.now (origin_in desk) rows c.loop-row.row-index _ c.args.self.now c.loop-row.self
    c.wait_row.new.self before (g.W.Wire.attempts c.loop-row.wire) after
    c.loop-row-test.true c.loop-row.invariant.waited c.in_err-wait_row.ensures.err))

pub loop-row-preserved : goal.loop-row-preserved
loop-row-preserved g c =
    let desk = c.args.rows.now in
    record {
      waited =
          waits_more desk c.args.now (origin_in desk) c.others_of-row-items.result.now c.loop-row.row-index _
          c.args.self.now c.loop-row.self c.wait_row.new.self
          (g.W.Wire.attempts c.args.wire.now) (g.W.Wire.attempts c.loop-row.wire)
          (g.W.Wire.attempts c.wait_row.new.wire)
          c.loop-row-test.true c.loop-row.invariant.waited c.in_ok-wait_row.ensures.waited;
      same =
          c.wait_row.ensures.same
          ∙ ap
          (λ (f : FrontOf g.row.P.Denot g.row.S.Denot).
          record f {
            ingress = c.wait_row.new.self.ingress;
            feed = c.wait_row.new.self.feed;
            limiter = c.wait_row.new.self.limiter;
            limited = c.wait_row.new.self.limited;
          })
          c.loop-row.invariant.same;
      asker = c.wait_row.ensures.asker ∙ c.loop-row.invariant.asker;
    }

pub returns-clause-waited : goal.returns-clause-waited
returns-clause-waited g c =
    let desk = c.args.rows.now in
    let before = g.W.Wire.attempts c.args.wire.now in
    let after = g.W.Wire.attempts c.loop-row.wire in
    let all =
    take_all c.loop-row.row-index c.others_of-row-items.result.now c.loop-row-test.false
    ∙ c.others_of-row-items.ensures.rows in
    subst (λ (os : List Origin). HaveWaited desk c.args.now os c.args.self.now c.loop-row.self before after)
    (ap (filter_map (origin_in desk)) all ∙ origins_by_rows desk)
    c.loop-row.invariant.waited
