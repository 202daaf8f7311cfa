use Rattle.std.proofs.Common.{◌≡◌, ◌+◌, ◌++◌, map, take, drop, set, subst, sym, ap, ◌∙◌, arith}
use Rattle.std.proofs.lemmas.List.Edits.{map_over_more}
use Rattle.media_front.specs.declared.lane_status.LaneStatus.{LaneStatus}
use Rattle.media_front.specs.inner.Statuses.{status_after_signal}
use Rattle.media_front.proofs.lane_status.signal_all.Goals as goal

pub loop-at-preserved : goal.loop-at-preserved
loop-at-preserved g c =
    let all = c.args.statuses.now in
    let at = c.loop-at.at in
    let x = c.index-statuses-at.result in
    subst
    (λ (t : LaneStatus). set c.loop-at.statuses at t ≡ map status_after_signal (take (at + 1) all) ++ drop (at + 1) all)
    (sym (c.signal.ensures ∙ ap status_after_signal (sym c.index-statuses-at.is)))
    (map_over_more status_after_signal all c.loop-at.statuses at x (omega (arith, c.loop-at-test.true))
    c.loop-at.invariant c.index-statuses-at.is)
