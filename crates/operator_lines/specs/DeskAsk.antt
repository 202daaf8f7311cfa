-- What a connection asks its desk that may change the desk, or what it knows of the connection (own).
use Rattle.std.specs.Prelude.{ℕ, Bool, List}
use Rattle.desk_edit.specs.Asked.{CallOf}
use Rattle.desk_text.specs.declared.fault.Fault.{Fault}
use Rattle.operator_lines.specs.declared.line_desk.LeaseAsk.{LeaseAsk}

-- a call by its line; the beginning of a watch, which tells moments and names or not; the news of a watch; the last
-- accepted calls, so many at most; the connection's name from now on; the desk's lease; or a line's fault, and the
-- place of its word
pub data DeskAsk : Type 0 where
  calls : (line : List ℕ) → CallOf → DeskAsk
  watches : (is_named : Bool) → DeskAsk
  news : DeskAsk
  lists : (most : ℕ) → DeskAsk
  renames : (name : List ℕ) → DeskAsk
  leases : LeaseAsk → DeskAsk
  faults : (line : List ℕ) → (word : ℕ) → Fault → DeskAsk
