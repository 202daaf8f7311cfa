-- Which logs are legal, and which desk their calls lead to (own).
use Rattle.std.specs.Prelude.{List, map}
use Rattle.desk_rows.specs.Desk.{Desk}
use Rattle.desk_edit.specs.Asked.{CallOf}
use Rattle.desk_edit.specs.Calls.{CallHistory, no_calls}
use Rattle.desk_calls.specs.Accepted.{after_calls, AreAccepted}
use Rattle.operator_desk.specs.Entry.{EntryOf}

-- the calls of a log, in order
abbrev pub calls_of : List EntryOf → List CallOf
calls_of log = map (λ (e : EntryOf). e.call) log

-- the history of a log's calls, from the desk of the start
abbrev pub after_log : Desk → List EntryOf → CallHistory
after_log start log = after_calls (no_calls start) (calls_of log)

-- each call of the log is accepted at its place
abbrev pub IsLegal : Desk → List EntryOf → Type 0
IsLegal start log = AreAccepted (no_calls start) (calls_of log)
