-- The packet grammar: RTP packets and their octets (RFC 3550 section 5.1).
use Rattle.std.specs.Prelude.{◌≡◌, ℕ, zero, suc, ◌+◌, ◌*◌, ◌/◌, ◌%◌, ◌<◌, ◌≤◌, ◌^◌, nat_lt, Bool, false, if◌then◌else◌}
use Rattle.std.specs.Prelude.{List, [], ◌∷◌, ◌++◌, length, Option, Some, None, is_some, ⊤}
use Rattle.std.specs.List.{flat_map}
use Rattle.std.specs.Int.{w16, w32, to_be_bytes}
use Rattle.rtp_codec.specs.declared.writing.Header.{Header}

-- a packet: its header, the octets of its contributing sources, its header extension (16 bits of the profile's and the
-- octets of its words), its payload, and how many octets of padding it has
pub record Packet : Type 0 where
  pub header : Header
  pub csrc_octets : List ℕ
  pub extension : Option (ℕ × List ℕ)
  pub payload : List ℕ
  pub padding : ℕ

-- the first octet: the version 2 in the top two bits, then P, then X, then the number of contributing sources
abbrev pub first_octet : Bool → Bool → ℕ → ℕ
first_octet padded extended csrc_count = 128 + (if padded then 32 else 0) + (if extended then 16 else 0) + csrc_count

-- the second octet: the marker in the top bit, the payload type
abbrev pub second_octet : Header → ℕ
second_octet h = if h.marker then 128 + h.pt else h.pt

-- the ten octets behind them, numbers in network order
abbrev pub number_fields : Header → List ℕ
number_fields h = to_be_bytes w16 h.seq ++ to_be_bytes w32 h.ts ++ to_be_bytes w32 h.ssrc

-- the twelve octets that each packet begins with
abbrev pub fixed_header : Bool → Bool → Header → ℕ → List ℕ
fixed_header padded extended h csrc_count =
    first_octet padded extended csrc_count ∷ second_octet h ∷ number_fields h

-- a header extension: the profile's 16 bits, the number of its 32-bit words, the words
abbrev pub extension_octets : Option (ℕ × List ℕ) → List ℕ
extension_octets None = []
extension_octets (Some e) = to_be_bytes w16 e.0 ++ to_be_bytes w16 (length e.1 / 4) ++ e.1

-- the largest payload type, of seven bits
abbrev pub most_pt : ℕ
most_pt = 127

-- the most contributing sources, as four bits count them
abbrev pub most_csrcs : ℕ
most_csrcs = 15

-- what fits the fields of a header
pub record FitsHeader (h : Header) : Type 0 where
  pub pt : h.pt ≤ most_pt
  pub seq : h.seq < 2 ^ 16
  pub ts : h.ts < 2 ^ 32
  pub ssrc : h.ssrc < 2 ^ 32

-- what fits a header extension: whole words, none to 65535 of them
abbrev pub FitsExtension : Option (ℕ × List ℕ) → Type 0
FitsExtension None = ⊤
FitsExtension (Some e) = (e.0 < 2 ^ 16) × (words : ℕ) × (length e.1 ≡ 4 * words) × (words < 2 ^ 16)

-- padding of so many octets: none, or any octets and behind them one that counts them all
abbrev pub IsPadding : ℕ → List ℕ → Type 0
IsPadding zero octets = octets ≡ []
IsPadding (suc n) octets = (fill : List ℕ) × (length fill ≡ n) × (octets ≡ fill ++ suc n ∷ [])

-- how many contributing sources a packet has, four octets each
abbrev pub csrcs_in : Packet → ℕ
csrcs_in p = length p.csrc_octets / 4

-- its fixed header: P where there is padding, X where there is an extension
abbrev pub header_of : Packet → List ℕ
header_of p = fixed_header (nat_lt 0 p.padding) (is_some p.extension) p.header (csrcs_in p)

-- the octets are those of the packet: its parts in order
pub record IsPacket (p : Packet) (octets : List ℕ) : Type 0 where
  pub padding_octets : List ℕ
  pub parts :
      octets ≡ header_of p ++ (p.csrc_octets ++ (extension_octets p.extension ++ (p.payload ++ padding_octets)))
  pub header : FitsHeader p.header
  pub csrcs : length p.csrc_octets % 4 ≡ 0
  pub csrcs_fit : csrcs_in p ≤ most_csrcs
  pub extension : FitsExtension p.extension
  pub padding : IsPadding p.padding padding_octets

-- numbers of 32 bits in network order
abbrev pub number_octets : List ℕ → List ℕ
number_octets numbers = flat_map (λ n. to_be_bytes w32 n) numbers

-- the packet of these parts that has no padding and no extension
abbrev pub plain : Header → List ℕ → List ℕ → Packet
plain h csrcs payload =
    record { header = h; csrc_octets = number_octets csrcs; extension = None; payload = payload; padding = 0 }

-- the written form, the case P = 0 and X = 0: the fixed header, the contributing sources, the payload
abbrev pub written : Header → List ℕ → List ℕ → List ℕ
written h csrcs payload = fixed_header false false h (length csrcs) ++ number_octets csrcs ++ payload

-- how many octets the written form has
abbrev pub size : List ℕ → List ℕ → ℕ
size csrcs payload = 12 + 4 * length csrcs + length payload
