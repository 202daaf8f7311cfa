use Rattle.std.proofs.Common.{◌≡◌, length, ap, arith}
use Rattle.media_front.specs.inner.Statuses.{lane_by}
use Rattle.media_front.proofs.PlaceLemmas.{length_beside}
use Rattle.media_front.proofs.feed.LaneFeed.waiting.Goals as goal

pub waiting-requires : goal.waiting-requires
waiting-requires g c =
    let here = c.self.inside in
    let same : length here.statuses.items ≡ length here.bridge = omega (arith, here.statuses.ok, c.self.invariant.0) in
    let long = length_beside lane_by here.bridge here.statuses.items same in
    record { lane = omega (arith, c.requires.lane, long, ap length c.self.view_is) }
