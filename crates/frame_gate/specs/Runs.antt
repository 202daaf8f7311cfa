-- Packets in a row, and the pieces into which they are divided (own).
use Rattle.std.specs.Prelude.{◌≡◌, ℕ, zero, suc, ◌+◌, Bool, not, ◌&&◌, if◌then◌else◌, nat_eq, List, [], ◌∷◌, ◌++◌}
use Rattle.std.specs.Prelude.{length, Option, None, Some, filter, fold, map}
use Rattle.std.specs.List.{list_any, flat_map}
use Rattle.frame_gate.specs.Packets.{NumberedPacket, frame_packet}
use Rattle.frame_gate.specs.Frame.{WholeFrame}

-- The packet has no payload.
abbrev pub is_empty : NumberedPacket → Bool
is_empty p = nat_eq (length p.payload) 0

-- The packet has a payload.
abbrev pub is_full : NumberedPacket → Bool
is_full p = not (is_empty p)

-- the non-empty packets of a piece
abbrev pub full : List NumberedPacket → List NumberedPacket
full piece = filter is_full piece

-- The packet is non-empty, and its timestamp differs from that of a non-empty packet of the piece.
abbrev pub differs : List NumberedPacket → NumberedPacket → Bool
differs piece p = is_full p && list_any (λ q. not (nat_eq q.ts p.ts)) (full piece)

-- The packet is non-empty and has a marker.
abbrev pub ends : NumberedPacket → Bool
ends p = is_full p && p.marker

-- a row of packets that was divided: the pieces that a division closed, and the unclosed piece after the last division
pub record Divided : Type 0 where
  pub closed : List (List NumberedPacket)
  pub unclosed : List NumberedPacket

-- no packets yet
abbrev pub undivided : Divided
undivided = record { closed = []; unclosed = [] }

-- a division at the end
abbrev pub closes : Divided → Divided
closes d = record { closed = d.closed ++ d.unclosed ∷ []; unclosed = [] }

-- one more packet in the unclosed piece
abbrev pub joins : Divided → NumberedPacket → Divided
joins d p = record { closed = d.closed; unclosed = d.unclosed ++ p ∷ [] }

-- divided before the packet, where its timestamp differs
abbrev pub parted : Divided → NumberedPacket → Divided
parted d p = if differs d.unclosed p then closes d else d

-- divided after the packet, where it ends a piece
abbrev pub ended : Divided → NumberedPacket → Divided
ended d p = if ends p then closes d else d

-- one more packet, with the divisions before and after it
abbrev pub with_packet : Divided → NumberedPacket → Divided
with_packet d p = ended (joins (parted d p) p) p

-- more packets, one after another
abbrev pub divide_on : Divided → List NumberedPacket → Divided
divide_on d run = fold with_packet d run

-- the run, divided after each non-empty packet with a marker and before each one whose timestamp differs
abbrev pub divided : List NumberedPacket → Divided
divided run = divide_on undivided run

-- all pieces but the first
abbrev pub but_first : List (List NumberedPacket) → List (List NumberedPacket)
but_first [] = []
but_first (piece ∷ pieces) = pieces

-- the timestamp of the first of these packets
abbrev pub first_ts : List NumberedPacket → ℕ
first_ts [] = 0
first_ts (p ∷ ps) = p.ts

-- the frame of these packets
abbrev pub frame_with : List NumberedPacket → WholeFrame
frame_with ps = record { ts = first_ts ps; packets = map frame_packet ps }

-- a piece as a frame: its non-empty packets
abbrev pub frame_of : List NumberedPacket → WholeFrame
frame_of piece = frame_with (full piece)

-- Each closed piece but the first is a frame.
abbrev pub frames_in : Divided → List WholeFrame
frames_in d = map frame_of (but_first d.closed)

-- the packets of pieces, in order
abbrev pub joined : List (List NumberedPacket) → List NumberedPacket
joined pieces = flat_map (λ piece. piece) pieces

-- The first number of the unclosed piece of a run from this cut; the number after the run, while the piece is the
-- first.
abbrev pub next_in : ℕ → Divided → ℕ
next_in cut d = elim d.closed [ [] ↦ cut + length d.unclosed | piece ∷ pieces ↦ cut + length (joined (piece ∷ pieces)) ]

-- of so many numbers from the first one on, the packets up to the first number that has none
abbrev pub row : (ℕ → Option NumberedPacket) → ℕ → ℕ → List NumberedPacket
row at from zero = []
row at from (suc count) = elim (at from) [ None ↦ [] | Some p ↦ p ∷ row at (suc from) count ]

-- These are the packets of the numbers from this one on.
abbrev pub IsRow : (ℕ → Option NumberedPacket) → ℕ → List NumberedPacket → Type 0
IsRow at from [] = Unit {0}
IsRow at from (p ∷ ps) = (at from ≡ Some p) × IsRow at (suc from) ps
