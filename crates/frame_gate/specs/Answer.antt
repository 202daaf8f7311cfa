-- What a gate answers to a packet, wherever the octets lie in memory.
use Rattle.std.specs.Prelude.{ℤ, Bool, List}
use Rattle.frame_gate.specs.declared.packet.Place.{Place}
use Rattle.frame_gate.specs.Frame.{WholeFrame}

-- what became of the packet, the frames that it newly closes, the numbers newly missing, and whether the gate gave up
pub record Answer : Type 0 where
  pub place : Place
  pub frames : List WholeFrame
  pub nacks : List ℤ
  pub pli : Bool
