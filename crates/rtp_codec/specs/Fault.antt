-- Why a datagram is no RTP packet: the cases, and which is reported (RFC 3550 section 5.1).
use Rattle.std.specs.Prelude.{ℕ, ◌+◌, ◌-◌, ◌*◌, ◌/◌, ◌%◌, ◌==◌, nat_lt, Bool, not, ◌&&◌, ◌||◌, if◌then◌else◌, List, []}
use Rattle.std.specs.Prelude.{◌∷◌, length, take, drop, slice_index, Option, Some, None}
use Rattle.std.specs.Int.{w16, from_be_bytes}
use Rattle.rtp_codec.specs.declared.fault.RtpFault.{RtpFault}
use Rattle.rtp_codec.specs.declared.fault.RtpFault.TheVariants.{Short, Version, Csrc, Extension, Padding}

-- the version, in the top two bits of the first octet
abbrev pub version : List ℕ → ℕ
version octets = slice_index octets 0 / 64

-- P, the bit behind it
abbrev pub is_padded : List ℕ → Bool
is_padded octets = slice_index octets 0 / 32 % 2 == 1

-- X, the bit behind that
abbrev pub is_extended : List ℕ → Bool
is_extended octets = slice_index octets 0 / 16 % 2 == 1

-- the number of contributing sources, in its low four bits
abbrev pub csrc_count : List ℕ → ℕ
csrc_count octets = slice_index octets 0 % 16

-- what follows the contributing sources
abbrev pub behind_csrcs : List ℕ → List ℕ
behind_csrcs octets = drop (12 + 4 * csrc_count octets) octets

-- how many octets a header extension has that begins here: four, and the words that the second two of them count
abbrev pub extension_size : List ℕ → ℕ
extension_size octets = 4 + 4 * from_be_bytes w16 (take 2 (drop 2 octets))

-- an extension is due, and its four octets or its words aren't there
abbrev pub lacks_extension : Bool → List ℕ → Bool
lacks_extension extended octets =
    extended && (nat_lt (length octets) 4 || nat_lt (length octets) (extension_size octets))

-- what follows the extension, if there is one
abbrev pub behind_extension : Bool → List ℕ → List ℕ
behind_extension extended octets = if extended then drop (extension_size octets) octets else octets

-- the last octet, which counts the padding
abbrev pub last_octet : List ℕ → ℕ
last_octet octets = slice_index octets (length octets - 1)

-- padding is due, and the count isn't 1 to the number of octets left
abbrev pub lacks_padding : Bool → List ℕ → Bool
lacks_padding padded octets = padded && (last_octet octets == 0 || nat_lt (length octets) (last_octet octets))

-- the case of each fault
abbrev pub is_case : RtpFault → List ℕ → Bool
is_case Short octets = nat_lt (length octets) 12
is_case Version octets = not (version octets == 2)
is_case Csrc octets = nat_lt (length octets) (12 + 4 * csrc_count octets)
is_case Extension octets = lacks_extension (is_extended octets) (behind_csrcs octets)
is_case Padding octets = lacks_padding (is_padded octets) (behind_extension (is_extended octets) (behind_csrcs octets))

-- the first of these faults whose case holds
abbrev pub first_of : List RtpFault → List ℕ → Option RtpFault
first_of [] octets = None
first_of (fault ∷ faults) octets = if is_case fault octets then Some fault else first_of faults octets

-- the faults in the order in which they are checked
abbrev pub fault_order : List RtpFault
fault_order = Short ∷ Version ∷ Csrc ∷ Extension ∷ Padding ∷ []

-- the first fault
unfoldable pub first_fault : List ℕ → Option RtpFault
first_fault octets = first_of fault_order octets
