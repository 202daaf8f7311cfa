-- The sink of a bridge's only lane.
use Rattle.std.proofs.Common.{◌≡◌, List, [], ◌∷◌, ◌++◌, length, subst, arith}
use Rattle.std.specs.List.{AllByRecursion}
use Rattle.media_workers.specs.declared.lane_end.LaneEnd.{LaneEnd}
use Rattle.media_workers.specs.Ports.{PortOf}
use Rattle.media_workers.specs.Bridges.{Taker, AllFeed}

-- its last end's sink feeds whom the lane's fed
pub last_feeds : {N P S : Type 0} (feeds : S → Taker → Type 0) (ports : List (PortOf P S))
    (ends rest : List (LaneEnd N S)) (end : LaneEnd N S) (c : Taker)
    → length ports ≡ 1 → AllFeed feeds ports ends → AllByRecursion (λ (p : PortOf P S). feeds p.sink c) ports
    → ends ≡ rest ++ end ∷ [] → feeds end.sink c
last_feeds feeds [] ends rest end c one fed all is = absurd (omega (arith, one))
last_feeds feeds (p ∷ q ∷ ports) ends rest end c one fed all is = absurd (omega (arith, one))
last_feeds feeds (p ∷ []) [] rest end c one fed all is = absurd fed
last_feeds feeds (p ∷ []) (e ∷ d ∷ ends) rest end c one fed all is = absurd fed.1
last_feeds {N} {P} {S} feeds (p ∷ []) (e ∷ []) [] end c one fed all is =
    let same : e ≡ end = cc (is) in
    subst (λ (x : LaneEnd N S). feeds x.sink c) same (fed.0 c all.0)
last_feeds feeds (p ∷ []) (e ∷ []) (r ∷ []) end c one fed all is = absurd (cc (is))
last_feeds feeds (p ∷ []) (e ∷ []) (r ∷ t ∷ rest) end c one fed all is = absurd (cc (is))
