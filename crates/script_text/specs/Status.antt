-- What the program does for its arguments, and how it ends (own).
use Rattle.std.specs.Prelude.{ℕ, List, [], ◌++◌, codes, Option, Some, None, Result, Ok, Err, if◌then◌else◌}
use Rattle.std.specs.Str.{bytes_eq}
use Rattle.std.specs.Fmt.{decimal}
use Rattle.std.specs.declared.io.ErrorKind.{ErrorKind}
use Rattle.std.specs.declared.io.ErrorKind.TheVariants as kinds
use Rattle.desk_text.specs.Text.{fault_text}
use Rattle.script_text.specs.declared.fault.RunFault.{RunFault}
use Rattle.script_text.specs.declared.fault.RunFault.TheVariants as errors
use Rattle.script_text.specs.declared.exits.Ask.{Ask}
use Rattle.script_text.specs.declared.exits.Ask.TheVariants as asks
use Rattle.script_text.specs.declared.exits.Exit.{Exit}
use Rattle.script_text.specs.declared.exits.Exit.TheVariants as outcomes

-- 0, 1 for a fault of the script, 2 for out of memory, 3 for a reader or writer that failed
abbrev pub status_of : Result (Unit {0}) RunFault → ℕ
status_of (Ok u) = 0
status_of (Err (errors.Script line word fault)) = 1
status_of (Err errors.OutOfMemory) = 2
status_of (Err errors.Read) = 3
status_of (Err errors.Write) = 3

-- what the first words behind the program's name ask for: `replay` alone is known
abbrev pub asked_by : Option (List ℕ) → Option (List ℕ) → Ask
asked_by (Some word) None = if bytes_eq word (codes "replay") then asks.Replay else asks.Unknown
asked_by _ _ = asks.Unknown

-- arguments that could not be read: memory ran out, or they are no text
abbrev pub unread_by : ErrorKind → Ask
unread_by kinds.OutOfMemory = asks.OutOfMemory
unread_by _ = asks.Unknown

-- the exit status: that of the run, 2 if memory ran out before it, 4 for unknown arguments
abbrev pub exit_of : Exit → ℕ
exit_of outcomes.Usage = 4
exit_of outcomes.OutOfMemory = 2
exit_of (outcomes.Ran answer) = status_of answer

-- why a run ended
abbrev pub run_text : RunFault → List ℕ
run_text (errors.Script line word fault) =
    codes "line " ++ decimal line ++ codes " word " ++ decimal word ++ codes ": " ++ fault_text fault
run_text errors.Read = codes "input or output failed"
run_text errors.Write = codes "input or output failed"
run_text errors.OutOfMemory = codes "out of memory"

-- what standard error gets of it; nothing of a run to its end
abbrev pub outcome_text : Exit → List ℕ
outcome_text outcomes.Usage = codes "usage: confbridge replay | confbridge serve FILE"
outcome_text outcomes.OutOfMemory = codes "confbridge: out of memory"
outcome_text (outcomes.Ran (Ok u)) = []
outcome_text (outcomes.Ran (Err fault)) = codes "confbridge: " ++ run_text fault
