use Rattle.std.proofs.Common.{◌≡◌, ◌∙◌, List, length, ap, sym, subst, refl, arith}
use Rattle.media_workers.specs.Ports.{PortOf}
use Rattle.media_workers.specs.Bridges.{AllEnded}
use Rattle.media_front.specs.FedLanes.{FedLane, ports_in}
use Rattle.media_front.specs.inner.Statuses.{lane_by}
use Rattle.media_front.proofs.PlaceLemmas.{beside_first}
use Rattle.media_front.proofs.feed.LaneFeed.close.Goals as goal

pub returns : goal.returns
returns g c =
    let here = c.self.inside in
    let same : length here.statuses.items ≡ length here.bridge = omega (arith, here.statuses.ok, c.self.invariant.0) in
    let ports =
    beside_first lane_by (λ (x : FedLane g.row.P.Denot g.row.S.Denot). x.port) here.bridge here.statuses.items
    (λ p t. refl) same in
    record {
      ended =
          subst
          (λ (ps : List (PortOf g.row.P.Denot g.row.S.Denot)).
          AllEnded g.P.Pace.answers g.S.Sink.taken ps c.close.result.items)
          (sym ports ∙ ap ports_in c.self.view_is) c.close.ensures.ended;
    }
