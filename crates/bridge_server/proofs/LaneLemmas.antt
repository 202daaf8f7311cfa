-- Lanes that stay the lanes that they were.
use Rattle.std.proofs.Common.{◌≡◌, List, [], ◌∷◌, refl, ap}
use Rattle.media_workers.specs.LaneRuns.{LaneNow}
use Rattle.lane_laws.specs.Learnt.{lanes_of}
use Rattle.media_front.specs.FedLanes.{FedLane, ports_in, lanes_in}

pub lanes_of_ports : {P S : Type 0} (xs : List (FedLane P S)) → lanes_of (ports_in xs) ≡ lanes_in xs
lanes_of_ports [] = refl
lanes_of_ports (x ∷ xs) = ap (λ (ls : List LaneNow). x.port.lane ∷ ls) (lanes_of_ports xs)
