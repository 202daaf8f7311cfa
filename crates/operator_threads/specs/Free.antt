-- Free seats (own).
use Rattle.std.specs.Prelude.{◌≡◌, ◌<◌, ℕ, nat_eq, List, Option, None, Some, position, slice_index_or}
use Rattle.std.specs.Prelude.{swap_remove}
use Rattle.operator_desk.specs.Seats.{SeatOf}

-- where the seat of an operator is among these
abbrev pub seat_at : ℕ → List SeatOf → Option ℕ
seat_at op seats = position (λ (s : SeatOf). nat_eq s.op op) seats

-- no seat of an operator below this one is among these
abbrev pub IsLowest : ℕ → List SeatOf → Type 0
IsLowest op seats = (below : ℕ) → below < op → seat_at below seats ≡ None

-- the seat of the lowest operator among these is here
abbrev pub IsLowestAt : ℕ → List SeatOf → Type 0
IsLowestAt at seats = (op : ℕ) × (seat_at op seats ≡ Some at) × IsLowest op seats

-- the operator's seat was one of those before, and those after are the others: the last one stands in its place
abbrev pub IsTakenFrom : ℕ → SeatOf → (before after : List SeatOf) → Type 0
IsTakenFrom op seat before after =
    (at : ℕ) × (seat_at op before ≡ Some at) × (seat ≡ slice_index_or before at seat)
    × (after ≡ swap_remove before at seat)
