-- Video frames: packets of one source and one timestamp.
use Rattle.std.specs.Prelude.{ℕ, ℤ, Bool, true, false, not, ◌&&◌, ◌||◌, if◌then◌else◌, nat_eq, nat_lt, int_lt, List, []}
use Rattle.std.specs.Prelude.{◌∷◌, length, Option, None, Some}
use Rattle.std.specs.List.{list_any}
use Rattle.frame_gate.specs.declared.frame.FrameFault.{FrameFault}
use Rattle.frame_gate.specs.declared.frame.FrameFault.TheVariants.{Empty, Order, TooMany, NoPayload, BadKind, Marker}

-- the most packets that a frame may have (own)
abbrev pub most_packets : ℕ
most_packets = 256

-- the highest payload type, of 7 bits (RFC 3550 section 5.1)
abbrev pub highest_pt : ℕ
highest_pt = 127

-- a packet of a frame, with its extended sequence number (RFC 3550 section A.1)
pub record SourcePacket : Type 0 where
  pub ext : ℤ
  pub marker : Bool
  pub pt : ℕ
  pub payload : List ℕ

-- packets of one timestamp
pub record WholeFrame : Type 0 where
  pub ts : ℕ
  pub packets : List SourcePacket

-- the numbers rise, the first being above this one
abbrev pub rise_from : ℤ → List SourcePacket → Bool
rise_from before [] = true
rise_from before (p ∷ ps) = int_lt before p.ext && rise_from p.ext ps

-- each number is above the one before it
abbrev pub numbers_rise : List SourcePacket → Bool
numbers_rise [] = true
numbers_rise (p ∷ ps) = rise_from p.ext ps

-- a packet has no payload
abbrev pub lacks_payload : List SourcePacket → Bool
lacks_payload ps = list_any (λ p. nat_eq (length p.payload) 0) ps

-- a payload type is above the highest one
abbrev pub has_bad_kind : List SourcePacket → Bool
has_bad_kind ps = list_any (λ p. nat_lt highest_pt p.pt) ps

-- a packet before the last one has the marker
abbrev pub marker_is_early : List SourcePacket → Bool
marker_is_early [] = false
marker_is_early (p ∷ ps) = p.marker && nat_lt 0 (length ps) || marker_is_early ps

-- the first fault that holds of these packets
unfoldable pub fault_of : List SourcePacket → Option FrameFault
fault_of ps =
    if nat_eq (length ps) 0 then Some Empty
    else (if not (numbers_rise ps) then Some Order
    else (if nat_lt most_packets (length ps) then Some TooMany
    else (if lacks_payload ps then Some NoPayload
    else (if has_bad_kind ps then Some BadKind
    else (if marker_is_early ps then Some Marker
    else None)))))
