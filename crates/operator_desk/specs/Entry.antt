-- Entries of a log (own).
use Rattle.std.specs.Prelude.{ℕ}
use Rattle.call_history.specs.Stamp.{StampOf}
use Rattle.desk_edit.specs.Asked.{CallOf}

-- an accepted call, the operator who made it, and when it was accepted under which name
pub record EntryOf : Type 0 where
  pub op : ℕ
  pub call : CallOf
  pub stamp : StampOf
