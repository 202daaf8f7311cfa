use Rattle.std.proofs.Common.{◌≡◌, ◌∙◌, ◌<◌, length, slice_get, ap, arith}
use Rattle.media_front.specs.declared.lane_status.LaneStatus.{LaneStatus}
use Rattle.media_front.specs.inner.Statuses.{lane_by}
use Rattle.media_front.proofs.PlaceLemmas.{length_beside, beside_at, read_at}
use Rattle.media_front.proofs.feed.LaneFeed.given.Goals as goal

pub index-requires : goal.index-requires
index-requires g c =
    let here = c.self.inside in
    let same : length here.statuses.items ≡ length here.bridge = omega (arith, here.statuses.ok, c.self.invariant.0) in
    let long = length_beside lane_by here.bridge here.statuses.items same in
    omega (arith, c.requires.lane, long, ap length c.self.view_is, c.self.invariant.0)

pub returns : goal.returns
returns g c x at =
    let here = c.self.inside in
    let same : length here.statuses.items ≡ length here.bridge = omega (arith, here.statuses.ok, c.self.invariant.0) in
    let long = length_beside lane_by here.bridge here.statuses.items same in
    let t = c.index.result.now in
    let low : c.args.lane < length here.statuses.items =
    omega (arith, c.requires.lane, long, same, ap length c.self.view_is) in
    let parts =
    beside_at lane_by here.bridge here.statuses.items c.args.lane x
    (ap (λ xs. slice_get xs c.args.lane) c.self.view_is ∙ at) in
    let first : t ≡ parts.1 = cc (read_at here.statuses.items c.args.lane t low c.index.ensures, parts.3) in
    ap (λ (u : LaneStatus). u.given) first ∙ ap (λ z. z.given) parts.4
