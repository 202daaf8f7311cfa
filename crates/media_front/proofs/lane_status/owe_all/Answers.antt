use Rattle.std.proofs.Common.{◌≡◌, ◌+◌, ◌++◌, map, take, drop, set, get_or, subst, sym, ap, ◌∙◌, arith}
use Rattle.std.proofs.lemmas.List.Edits.{map_over_more}
use Rattle.published_desk.specs.Published.{NoticeOf}
use Rattle.media_front.specs.declared.lane_status.LaneStatus.{LaneStatus}
use Rattle.media_front.specs.inner.Statuses.{owing}
use Rattle.media_front.proofs.lane_status.owe_all.Goals as goal

pub loop-at-preserved : goal.loop-at-preserved
loop-at-preserved c =
    let all = c.args.statuses.now in
    let at = c.loop-at.at in
    let x = c.index-statuses-at.result in
    let notice = c.args.notice.now in
    subst
    (λ (t : LaneStatus). set c.loop-at.statuses at t ≡ map (owing notice) (take (at + 1) all) ++ drop (at + 1) all)
    (sym (c.owe.ensures
    ∙ ap (λ (n : NoticeOf). owing n (get_or c.loop-at.statuses at x)) c.again.ensures
    ∙ ap (owing notice) (sym c.index-statuses-at.is)))
    (map_over_more (owing notice) all c.loop-at.statuses at x (omega (arith, c.loop-at-test.true)) c.loop-at.invariant
    c.index-statuses-at.is)
