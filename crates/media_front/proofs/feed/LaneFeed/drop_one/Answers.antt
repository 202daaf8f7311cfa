use Rattle.std.proofs.Common.{◌≡◌, ◌∙◌, ◌<◌, length, set, slice_get, slice_set, false, ap, subst, sym, arith}
use Rattle.media_front.specs.declared.lane_status.LaneStatus.{LaneStatus}
use Rattle.media_front.specs.FedLanes.{dropping}
use Rattle.media_front.specs.inner.Statuses.{lane_by, lanes_by, AreOf}
use Rattle.media_front.proofs.PlaceLemmas.{length_beside}
use Rattle.media_front.proofs.GiveLemmas.{dropped_one, counted_in_book}
use Rattle.media_front.proofs.feed.LaneFeed.drop_one.Goals as goal

pub index_mut-requires : goal.index_mut-requires
index_mut-requires g c =
    let here = c.self.inside in
    let same : length here.statuses.items ≡ length here.bridge = omega (arith, here.statuses.ok, c.self.invariant.0) in
    let long = length_beside lane_by here.bridge here.statuses.items same in
    omega (arith, c.requires.lane, long, ap length c.self.view_is, c.self.invariant.0)

pub invariant_of-self : goal.invariant_of-self
invariant_of-self g c =
    let here = c.self.inside in
    let same : length here.statuses.items ≡ length here.bridge = omega (arith, here.statuses.ok, c.self.invariant.0) in
    let long = length_beside lane_by here.bridge here.statuses.items same in
    let publisher = g.N.PublisherName.publisher in
    let low : c.args.lane < length here.statuses.items =
    omega (arith, c.requires.lane, long, same, ap length c.self.view_is) in (
      c.self.invariant.0,
      c.self.invariant.1,
      c.self.invariant.2,
      subst (λ (v : LaneStatus). AreOf publisher (set here.statuses.items c.args.lane v)) (sym c.count.ensures)
          (counted_in_book publisher here.statuses.items c.args.lane c.index_mut.result.now false false low
          c.index_mut.ensures.value c.self.invariant.3),
    )

pub returns : goal.returns
returns g c x at =
    let here = c.self.inside in
    let same : length here.statuses.items ≡ length here.bridge = omega (arith, here.statuses.ok, c.self.invariant.0) in
    let long = length_beside lane_by here.bridge here.statuses.items same in
    let lane = c.args.lane in
    let low : lane < length here.statuses.items =
    omega (arith, c.requires.lane, long, same, ap length c.self.view_is) in
    let one =
    dropped_one here.bridge here.statuses.items lane false c.index_mut.result.now low c.index_mut.ensures.value x
    (ap (λ xs. slice_get xs lane) c.self.view_is ∙ at) in
    ap (λ (v : LaneStatus). lanes_by here.bridge (set here.statuses.items lane v)) c.count.ensures
    ∙ (one ∙ ap (λ xs. slice_set xs lane (dropping x)) c.self.view_is)
