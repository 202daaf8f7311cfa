-- Words that spell a packet, EXT/M/PT/HEX, and octets in hexadecimal (own).
use Rattle.std.specs.Prelude.{◌≡◌, ◌≤◌, ℕ, ◌+◌, ◌==◌, List}
use Rattle.std.specs.Prelude.{[], ◌∷◌, Result, Ok, Err, ◌++◌, codes, Bool, if◌then◌else◌}
use Rattle.std.specs.List.{slice_split}
use Rattle.std.specs.Fmt.{decimal, signed_decimal}
use Rattle.std.specs.Str.{str_to_ascii_lowercase}
use Rattle.hex.specs.Hex.{IsBytes, decode_of, encode_lower}
use Rattle.hex.specs.declared.error.FromHexError.{FromHexError}
use Rattle.frame_gate.specs.Frame.{SourcePacket}
use Rattle.desk_text.specs.declared.fault.Fault.{Fault}
use Rattle.desk_text.specs.declared.fault.Fault.TheVariants.{BadNumber, BadHex}
use Rattle.desk_text.specs.Words.{◌>>=◌, value_or}
use Rattle.desk_text.specs.Numbers.{decimal_of, ext_of, FitsExt, SpellsExt}

-- how a marker is written
abbrev pub marker_text : Bool → List ℕ
marker_text marker = if marker then decimal 1 else decimal 0

-- how a packet is written
abbrev pub packet_text : SourcePacket → List ℕ
packet_text p =
    signed_decimal p.ext ++ codes "/" ++ marker_text p.marker ++ codes "/" ++ decimal p.pt ++ codes "/"
    ++ encode_lower p.payload

-- how octets may be written: in hexadecimal of either case
abbrev pub SpellsHex : List ℕ → List ℕ → Type 0
SpellsHex word octets = str_to_ascii_lowercase word ≡ encode_lower octets

-- how a packet may be written
abbrev pub SpellsPacket : List ℕ → SourcePacket → Type 0
SpellsPacket word p =
    (ext : List ℕ) × (payload : List ℕ) × SpellsExt ext p.ext × SpellsHex payload p.payload
    × (word ≡ ext ++ codes "/" ++ marker_text p.marker ++ codes "/" ++ decimal p.pt ++ codes "/" ++ payload)

-- the numbers of a packet are in range
pub record IsReadable (p : SourcePacket) : Type 0 where
  pub ext : FitsExt p.ext
  pub pt : p.pt ≤ 255
  pub payload : IsBytes p.payload

-- those of all packets
abbrev pub AllReadable : List SourcePacket → Type 0
AllReadable [] = Unit {0}
AllReadable (p ∷ ps) = IsReadable p × AllReadable ps

-- how packets may be written, word by word
abbrev pub SpellPackets : List (List ℕ) → List SourcePacket → Type 0
SpellPackets [] [] = Unit {0}
SpellPackets (word ∷ words) (p ∷ ps) = SpellsPacket word p × SpellPackets words ps
SpellPackets [] (p ∷ ps) = ⊥
SpellPackets (word ∷ words) [] = ⊥

-- octets in hexadecimal of either case, or the fault of the word at this place
abbrev pub octets_or : ℕ → Result (List ℕ) FromHexError → Result (List ℕ) (ℕ × Fault)
octets_or place (Ok octets) = Ok octets
octets_or place (Err e) = Err (place, BadHex)

-- the packet of these four words
unfoldable pub packet_from : ℕ → List ℕ → List ℕ → List ℕ → List ℕ → Result SourcePacket (ℕ × Fault)
packet_from place ext marker pt payload = do
  e ← value_or place BadNumber (ext_of ext)
  m ← value_or place BadNumber (decimal_of 1 marker)
  p ← value_or place BadNumber (decimal_of 255 pt)
  octets ← octets_or place (decode_of payload)
  Ok (record { ext = e; marker = m == 1; pt = p; payload = octets })

-- the packet of what stands between the slashes of a word: these are four
abbrev pub packet_of_parts : ℕ → List (List ℕ) → Result SourcePacket (ℕ × Fault)
packet_of_parts place (ext ∷ marker ∷ pt ∷ payload ∷ []) = packet_from place ext marker pt payload
packet_of_parts place _ = Err (place, BadHex)

-- the packet that the word at this place spells: 47 is the slash
abbrev pub packet_of : ℕ → List ℕ → Result SourcePacket (ℕ × Fault)
packet_of place word = packet_of_parts place (slice_split (λ b. b == 47) word)

-- the packets of words, the first of them at this place; the first fault from left to right
unfoldable pub source_packets_of : ℕ → List (List ℕ) → Result (List SourcePacket) (ℕ × Fault)
source_packets_of place [] = Ok []
source_packets_of place (word ∷ words) = do
  packet ← packet_of place word
  packets ← source_packets_of (place + 1) words
  Ok (packet ∷ packets)
