-- Which calls of a log are in force, and which can be redone (own).
use Rattle.std.specs.Prelude.{◌≡◌, ℕ, ◌+◌, List, [], ◌∷◌}
use Rattle.desk_rows.specs.Desk.{Desk}
use Rattle.call_history.specs.AcceptedCall.{AcceptedOf}
use Rattle.call_history.specs.Stamp.{StampedOf}
use Rattle.call_history.specs.Lists.{ListsOf, lists_of, in_force, last_few}
use Rattle.operator_desk.specs.Entry.{EntryOf}
use Rattle.operator_desk.specs.LegalLogs.{IsLegal}

-- the accepted calls of a log whose first entry has this number
abbrev pub made_from : ℕ → List EntryOf → List AcceptedOf
made_from first [] = []
made_from first (e ∷ es) = record { number = first; op = e.op; call = e.call } ∷ made_from (first + 1) es

-- the accepted calls of a log, of which the first is number 1
abbrev pub made_of : List EntryOf → List AcceptedOf
made_of log = made_from 1 log

-- the same, with their stamps
abbrev pub stamped_from : ℕ → List EntryOf → List StampedOf
stamped_from first [] = []
stamped_from first (e ∷ es) =
    record { made = record { number = first; op = e.op; call = e.call }; stamp = e.stamp } ∷ stamped_from (first + 1) es

-- the accepted calls of a log with their stamps, of which the first is number 1
abbrev pub stamped_of : List EntryOf → List StampedOf
stamped_of log = stamped_from 1 log

-- those of them that are done, and those that can be redone
abbrev pub lists_in : List EntryOf → ListsOf
lists_in log = lists_of (made_of log)

-- a log, and calls of it: those that are in force, and those that can be redone
pub record PastOf : Type 0 where
  pub log : List EntryOf
  pub done : List AcceptedOf
  pub undone : List AcceptedOf

-- the log is legal, and the calls are its last ones: at most so many of each
pub record IsPast (start : Desk) (most : ℕ) (p : PastOf) : Type 0 where
  pub legal : IsLegal start p.log
  pub done : p.done ≡ last_few most (in_force (lists_in p.log).done)
  pub undone : p.undone ≡ last_few most (lists_in p.log).undone
