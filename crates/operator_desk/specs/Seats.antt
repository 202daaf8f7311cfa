-- What an operator's seat knows (own).
use Rattle.std.specs.Prelude.{ℕ, zero, suc, List, [], ◌∷◌, ◌++◌, Option, None}
use Rattle.operator_desk.specs.Entry.{EntryOf}

-- an operator's seat: the log that it has seen, how many calls it made that were accepted, and an entry that it found
-- in the cell behind that log
pub record SeatOf : Type 0 where
  pub op : ℕ
  pub seen : List EntryOf
  pub count : ℕ
  pub beyond : Option EntryOf

-- a seat that has seen nothing
abbrev pub new_seat : ℕ → SeatOf
new_seat op = record { op = op; seen = []; count = 0; beyond = None }

-- new seats of so many operators, which are numbered from 0
abbrev pub new_seats : ℕ → List SeatOf
new_seats zero = []
new_seats (suc n) = new_seats n ++ new_seat n ∷ []
