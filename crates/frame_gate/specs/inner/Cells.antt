-- What the cells of a gate hold.
use Rattle.std.specs.Prelude.{◌≡◌, ℕ, ◌%◌, if◌then◌else◌, nat_eq, nat_lt, List, Option, None, Some, slice_index_or, ◌⊎◌}
use Rattle.std.specs.Prelude.{◌<◌, ◌+◌, ◌-◌, min}
use Rattle.std.specs.Option.{option_or}
use Rattle.frame_gate.specs.Packets.{NumberedPacket}
use Rattle.frame_gate.specs.Epochs.{gate_size}

-- the packet, if it has this number
abbrev pub of_number : Option NumberedPacket → ℕ → Option NumberedPacket
of_number None n = None
of_number (Some p) n = if nat_eq p.number n then Some p else None

-- the packet of this number that has just come, or lies in the cell of the number
abbrev pub held : List (Option NumberedPacket) → Option NumberedPacket → ℕ → Option NumberedPacket
held cells newcomer n = option_or (of_number newcomer n) (of_number (slice_index_or cells (n % gate_size) None) n)

-- what lies in a cell
abbrev pub cell : List (Option NumberedPacket) → ℕ → Option NumberedPacket
cell cells i = slice_index_or cells i None

-- nothing, where the packet's number is below this one
abbrev pub from_on : ℕ → Option NumberedPacket → Option NumberedPacket
from_on to None = None
from_on to (Some p) = if nat_lt p.number to then None else Some p

-- Each packet lies in the cell of its number.
abbrev pub ArePlaced : List (Option NumberedPacket) → Type 0
ArePlaced cells = (i : ℕ) (p : NumberedPacket) → cell cells i ≡ Some p → p.number % gate_size ≡ i

-- Packets with numbers below this one may be gone.
abbrev pub MayForget : ℕ → List (Option NumberedPacket) → List (Option NumberedPacket) → Type 0
MayForget to old new = (i : ℕ) → (cell new i ≡ cell old i) ⊎ (cell new i ≡ from_on to (cell old i))

-- What is numbered from one number to before another is gone.
abbrev pub Forgets : (from to : ℕ) → List (Option NumberedPacket) → List (Option NumberedPacket) → Type 0
Forgets from to old new =
    (k : ℕ) → k < min (to - from) gate_size
    → cell new ((from + k) % gate_size) ≡ from_on to (cell old ((from + k) % gate_size))
