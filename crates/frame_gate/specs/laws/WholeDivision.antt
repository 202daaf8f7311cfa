-- Where a run is divided, and that it is divided nowhere else.
use Rattle.std.specs.Prelude.{◌≡◌, ℕ, true, false, List, [], ◌∷◌, ◌++◌, ◌⊎◌}
use Rattle.std.specs.List.{list_any}
use Rattle.frame_gate.specs.Packets.{NumberedPacket}
use Rattle.frame_gate.specs.Runs.{is_full, ends, differs, Divided, divided, joined}

-- All non-empty packets have this timestamp.
abbrev pub HaveTs : ℕ → List NumberedPacket → Type 0
HaveTs ts [] = Unit {0}
HaveTs ts (p ∷ ps) = (is_full p ≡ true → p.ts ≡ ts) × HaveTs ts ps

-- The first packet after the piece has another timestamp.
abbrev pub BeginsAnew : List NumberedPacket → List NumberedPacket → Type 0
BeginsAnew piece [] = ⊥
BeginsAnew piece (next ∷ later) = differs piece next ≡ true

-- A closed piece has one timestamp, and no packet but its last one ends it; it is closed since the last one ends it, or
-- since what comes after it has another timestamp.
pub record IsClosed (piece after : List NumberedPacket) : Type 0 where
  pub front : List NumberedPacket
  pub last : NumberedPacket
  pub is : piece ≡ front ++ last ∷ []
  pub goes_on : list_any ends front ≡ false
  pub ts : ℕ
  pub one_ts : HaveTs ts piece
  pub reason : (ends last ≡ true) ⊎ BeginsAnew piece after

-- All these pieces are closed, the unclosed one coming after them.
abbrev pub AreClosed : List (List NumberedPacket) → List NumberedPacket → Type 0
AreClosed [] unclosed = Unit {0}
AreClosed (piece ∷ pieces) unclosed = IsClosed piece (joined pieces ++ unclosed) × AreClosed pieces unclosed

-- These are the pieces of the run; the unclosed one has one timestamp, and no packet ends it.
pub record IsDivision (run : List NumberedPacket) (d : Divided) : Type 0 where
  pub all : joined d.closed ++ d.unclosed ≡ run
  pub closed : AreClosed d.closed d.unclosed
  pub goes_on : list_any ends d.unclosed ≡ false
  pub ts : ℕ
  pub one_ts : HaveTs ts d.unclosed

-- A run is divided in this way, and in no other.
abbrev pub WholeDivision : Type 0
WholeDivision =
    (run : List NumberedPacket) → IsDivision run (divided run) × ((d : Divided) → IsDivision run d → divided run ≡ d)
