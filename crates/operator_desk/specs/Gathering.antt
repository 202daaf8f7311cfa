-- Why a log is not handed out (own).
use Rattle.std.specs.Prelude.{◌≡◌, ℕ, ◌<◌, ◌≤◌, Bool, true, false, nat_eq, List, length, Option, Some, None, slice_get}
use Rattle.std.specs.List.{All, Contains, list_any}
use Rattle.std.specs.declared.sync.OnceToken.{OnceToken}
use Rattle.operator_desk.specs.declared.fault.GatherFault.{GatherFault}
use Rattle.operator_desk.specs.declared.fault.GatherFault.TheVariants.{SeatMissing, SeatForeign, LogTaken, Ended}
use Rattle.operator_desk.specs.declared.fault.GatherFault.TheVariants.{OutOfMemory}
use Rattle.operator_desk.specs.Entry.{EntryOf}
use Rattle.operator_desk.specs.Seats.{SeatOf}

-- a seat of this operator is among these
abbrev pub is_handed_in : ℕ → List SeatOf → Bool
is_handed_in op seats = list_any (λ (s : SeatOf). nat_eq s.op op) seats

-- the seats of the first operators, this many, are among these
abbrev pub AreAllIn : ℕ → List SeatOf → Type 0
AreAllIn count seats = (op : ℕ) → op < count → is_handed_in op seats ≡ true

-- the token is of the cell behind all that these seats have seen, or behind more
abbrev pub IsTaken : List ℕ → List SeatOf → Option (OnceToken EntryOf) → Type 0
IsTaken cells seats None = ⊥
IsTaken cells seats (Some token) =
    (n : ℕ) × All (λ (s : SeatOf). length s.seen ≤ n) seats × (slice_get cells n ≡ Some token.of)

-- a seat of this operator, among these, has seen an entry
abbrev pub HasSeenOne : ℕ → List SeatOf → Type 0
HasSeenOne op seats = (s : SeatOf) × Contains seats s × (s.op ≡ op) × (0 < length s.seen)

-- A seat is missing only if it wasn't handed in, and the least one is named; the other faults come only if none is
-- missing. A seat of another desk has seen more than this desk's log. That the log is taken, or that a call could not
-- be published, is shown by a token of a cell of which no seat knows.
abbrev pub IsFault : List ℕ → ℕ → List SeatOf → GatherFault → Option (OnceToken EntryOf) → Type 0
IsFault cells count seats (SeatMissing op) behind = (op < count) × (is_handed_in op seats ≡ false) × AreAllIn op seats
IsFault cells count seats (SeatForeign op) behind = AreAllIn count seats × HasSeenOne op seats
IsFault cells count seats LogTaken behind = AreAllIn count seats × IsTaken cells seats behind
IsFault cells count seats Ended behind = AreAllIn count seats × IsTaken cells seats behind
IsFault cells count seats OutOfMemory behind = AreAllIn count seats
