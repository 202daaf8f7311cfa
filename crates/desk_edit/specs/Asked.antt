-- What is asked of the desk by a call.
use Rattle.std.specs.Prelude.{ℕ, List}
use Rattle.desk_edit.specs.declared.command.Command.{Command}
use Rattle.desk_edit.specs.declared.command.Call.{Call}
use Rattle.desk_edit.specs.declared.command.Call.TheVariants as calls

-- a call, without where its commands lie
pub data CallOf : Type 0 where
  Apply : (command : Command) → CallOf
  Group : (commands : List Command) → CallOf
  Undo : (last : ℕ) → CallOf
  Redo : (last : ℕ) → CallOf
  Revert : (number : ℕ) → CallOf

-- what a call asks
abbrev pub asked_by : {A : Type 0} → Call A → CallOf
asked_by (calls.Apply command) = Apply command
asked_by (calls.Group commands) = Group commands.items
asked_by (calls.Undo last) = Undo last
asked_by (calls.Redo last) = Redo last
asked_by (calls.Revert number) = Revert number
