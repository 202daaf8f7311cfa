-- What contracts see of a gate.
use Rattle.std.specs.Prelude.{ℕ, List, Option}
use Rattle.frame_gate.specs.Packets.{NumberedPacket}
use Rattle.frame_gate.specs.declared.walk.Walk.{Walk}
use Rattle.frame_gate.specs.Answer.{Answer}
use Rattle.frame_gate.specs.GivenUp.{GaveUp}

pub record Kept : Type 0 where
  pub cells : List (Option NumberedPacket)
  pub walk : Walk
  pub greatest : Option ℕ

-- what contracts see of what is prepared
pub record PreparedOf : Type 0 where
  pub packet : NumberedPacket
  pub walk : Walk
  pub answer : Answer

-- what contracts see of cuts that are prepared
pub record PreparedCutsOf : Type 0 where
  pub walk : Walk
  pub answer : GaveUp
