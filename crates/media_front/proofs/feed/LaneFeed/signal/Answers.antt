use Rattle.std.proofs.Common.{◌≡◌, ◌∙◌, ◌++◌, List, length, map, take, drop, ap, sym, subst, arith}
use Rattle.media_front.specs.declared.lane_status.LaneStatus.{LaneStatus}
use Rattle.media_front.specs.FedLanes.{after_signal}
use Rattle.media_front.specs.inner.Statuses.{lane_by, lanes_by, status_after_signal, AreOf}
use Rattle.media_front.proofs.PlaceLemmas.{beside_map, put_whole}
use Rattle.media_front.proofs.GiveLemmas.{after_signal_of, after_signal_by}
use Rattle.media_front.proofs.feed.LaneFeed.signal.Goals as goal

pub signal_all-requires : goal.signal_all-requires
signal_all-requires g c =
    omega (arith, c.deref.ensures.len, c.deref_mut.ensures.len, c.self.invariant.0, c.self.invariant.1)

pub invariant_of-self : goal.invariant_of-self
invariant_of-self g c =
    let here = c.self.inside in
    let publisher = g.N.PublisherName.publisher in
    let now = c.signal_all.new.statuses in
    let whole =
    put_whole here.statuses.len now here.statuses.items
    (omega (arith, c.signal_all.auto.statuses, c.deref_mut.ensures.len)) in
    let is : take here.statuses.len (now ++ drop (length now) here.statuses.items)
    ≡ map status_after_signal here.statuses.items =
    whole ∙ (c.signal_all.ensures ∙ ap (map status_after_signal) c.deref_mut.ensures.value) in (
      c.self.invariant.0,
      c.self.invariant.1,
      c.self.invariant.2,
      subst (AreOf publisher) (sym is) (after_signal_of publisher here.statuses.items c.self.invariant.3),
    )

pub returns : goal.returns
returns g c =
    let here = c.self.inside in
    let now = c.signal_all.new.statuses in
    let whole =
    put_whole here.statuses.len now here.statuses.items
    (omega (arith, c.signal_all.auto.statuses, c.deref_mut.ensures.len)) in
    let is : take here.statuses.len (now ++ drop (length now) here.statuses.items)
    ≡ map status_after_signal here.statuses.items =
    whole ∙ (c.signal_all.ensures ∙ ap (map status_after_signal) c.deref_mut.ensures.value) in
    ap (λ (ts : List LaneStatus). lanes_by here.bridge ts) is
    ∙ (beside_map lane_by status_after_signal after_signal here.bridge here.statuses.items after_signal_by
    ∙ ap (map after_signal) c.self.view_is)
