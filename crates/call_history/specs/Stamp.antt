-- When calls were accepted, and under which names (own).
use Rattle.std.specs.Prelude.{ℕ, List}
use Rattle.call_history.specs.AcceptedCall.{AcceptedOf}

-- a moment, in milliseconds since 1970, and a name
pub record StampOf : Type 0 where
  pub moment : ℕ
  pub name : List ℕ

-- an accepted call: when it was accepted, and the name that its operator's connection had then
pub record StampedOf : Type 0 where
  pub made : AcceptedOf
  pub stamp : StampOf
