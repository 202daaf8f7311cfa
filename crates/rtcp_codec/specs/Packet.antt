-- The packet grammar: RTCP packets and their octets (RFC 3550 section 6, RFC 4585 section 6).
use Rattle.std.specs.Prelude.{◌≡◌, ℕ, ◌+◌, ◌*◌, ◌/◌, ◌%◌, ◌^◌, ◌<◌, ◌≤◌, nat_lt, Bool, false, if◌then◌else◌, List, []}
use Rattle.std.specs.Prelude.{◌∷◌, ◌++◌, length, Option, Some, None, IfSome, ⊤}
use Rattle.std.specs.List.{flat_map, AllByRecursion}
use Rattle.std.specs.Int.{w16, w32, w64, to_be_bytes}
use Rattle.rtp_codec.specs.Packet.{number_octets, IsPadding}
use Rattle.rtcp_codec.specs.declared.kind.PacketKind.{PacketKind}
use Rattle.rtcp_codec.specs.declared.kind.PacketKind.TheVariants as kinds
use Rattle.rtcp_codec.specs.declared.nack.NackWord.{NackWord}
use Rattle.rtcp_codec.specs.declared.report.ReportBlock.{ReportBlock}
use Rattle.rtcp_codec.specs.Description.{Chunk, chunk_octets, filled, Describe, most_text, TextsFit, ItemsTold}
use Rattle.rtcp_codec.specs.Kind.{kind_of, sr, rr, sdes, bye, app, rtpfb, psfb, nack_format, pli_format}
use Rattle.rtcp_codec.specs.Nack.{word_octets, FitsWord}
use Rattle.rtcp_codec.specs.Report.{block_octets, FitsBlock, FitsLost}

-- a packet, without where it lies in memory
pub data Packet : Type 0 where
  Sender : (ssrc ntp ts packets octets : ℕ) (blocks : List ReportBlock) → Packet
  Receiver : (ssrc : ℕ) (blocks : List ReportBlock) → Packet
  Sdes : (chunks : List Chunk) → Packet
  Bye : (ssrcs : List ℕ) (reason : Option (List ℕ)) → Packet
  App : (subtype ssrc : ℕ) (name content : List ℕ) → Packet
  Nack : (sender media : ℕ) (words : List NackWord) → Packet
  Pli : (sender media : ℕ) → Packet
  Other : (pt count : ℕ) (body : List ℕ) → Packet

-- the kind of a packet
abbrev pub kind : Packet → PacketKind
kind (Sender ssrc ntp ts packets octets blocks) = kinds.Sender
kind (Receiver ssrc blocks) = kinds.Receiver
kind (Sdes chunks) = kinds.Sdes
kind (Bye ssrcs reason) = kinds.Bye
kind (App subtype ssrc name content) = kinds.App
kind (Nack sender media words) = kinds.Nack
kind (Pli sender media) = kinds.Pli
kind (Other pt count body) = kinds.Other

-- the packet type
abbrev pub type_of : Packet → ℕ
type_of (Sender ssrc ntp ts packets octets blocks) = sr
type_of (Receiver ssrc blocks) = rr
type_of (Sdes chunks) = sdes
type_of (Bye ssrcs reason) = bye
type_of (App subtype ssrc name content) = app
type_of (Nack sender media words) = rtpfb
type_of (Pli sender media) = psfb
type_of (Other pt count body) = pt

-- the count: of blocks, chunks or sources; the subtype of an APP, the format of feedback
abbrev pub count_of : Packet → ℕ
count_of (Sender ssrc ntp ts packets octets blocks) = length blocks
count_of (Receiver ssrc blocks) = length blocks
count_of (Sdes chunks) = length chunks
count_of (Bye ssrcs reason) = length ssrcs
count_of (App subtype ssrc name content) = subtype
count_of (Nack sender media words) = nack_format
count_of (Pli sender media) = pli_format
count_of (Other pt count body) = count

-- the reason for leaving: its length and its text, if there is one
abbrev pub reason_octets : Option (List ℕ) → List ℕ
reason_octets None = []
reason_octets (Some reason) = length reason ∷ reason

-- the named parts of a packet's body in order, with null fill
abbrev pub fields : Packet → List ℕ
fields (Sender ssrc ntp ts packets octets blocks) =
    to_be_bytes w32 ssrc ++ to_be_bytes w64 ntp ++ to_be_bytes w32 ts ++ to_be_bytes w32 packets
    ++ to_be_bytes w32 octets ++ flat_map block_octets blocks
fields (Receiver ssrc blocks) = to_be_bytes w32 ssrc ++ flat_map block_octets blocks
fields (Sdes chunks) = flat_map (λ c. filled (chunk_octets c)) chunks
fields (Bye ssrcs reason) = number_octets ssrcs ++ reason_octets reason
fields (App subtype ssrc name content) = to_be_bytes w32 ssrc ++ name ++ content
fields (Nack sender media words) = to_be_bytes w32 sender ++ to_be_bytes w32 media ++ flat_map word_octets words
fields (Pli sender media) = to_be_bytes w32 sender ++ to_be_bytes w32 media
fields (Other pt count body) = body

-- the octets begin so, and any may follow
abbrev pub Begin : List ℕ → List ℕ → Type 0
Begin front octets = (more : List ℕ) × (octets ≡ front ++ more)

-- the octets are the body of the packet: what is named in order, with any fill, and anything behind it where more may
-- follow
abbrev pub IsBody : Packet → List ℕ → Type 0
IsBody (Sender ssrc ntp ts packets octets blocks) body = Begin (fields (Sender ssrc ntp ts packets octets blocks)) body
IsBody (Receiver ssrc blocks) body = Begin (fields (Receiver ssrc blocks)) body
IsBody (Sdes chunks) body = Describe chunks body
IsBody (Bye ssrcs None) body = body ≡ fields (Bye ssrcs None)
IsBody (Bye ssrcs (Some reason)) body = Begin (fields (Bye ssrcs (Some reason))) body
IsBody (App subtype ssrc name content) body = body ≡ fields (App subtype ssrc name content)
IsBody (Nack sender media words) body = body ≡ fields (Nack sender media words)
IsBody (Pli sender media) body = Begin (fields (Pli sender media)) body
IsBody (Other pt count octets) body = body ≡ octets

-- a chunk whose numbers fit their fields
pub record FitsTypesOfChunk (c : Chunk) : Type 0 where
  pub ssrc : c.ssrc < 2 ^ 32
  pub kinds : AllByRecursion (λ i. i.kind < 2 ^ 8) c.items

-- each number fits its field, the count and losses apart
abbrev pub FitsTypes : Packet → Type 0
FitsTypes (Sender ssrc ntp ts packets octets blocks) =
    (ssrc < 2 ^ 32) × (ntp < 2 ^ 64) × (ts < 2 ^ 32) × (packets < 2 ^ 32) × (octets < 2 ^ 32)
    × AllByRecursion FitsBlock blocks
FitsTypes (Receiver ssrc blocks) = (ssrc < 2 ^ 32) × AllByRecursion FitsBlock blocks
FitsTypes (Sdes chunks) = AllByRecursion FitsTypesOfChunk chunks
FitsTypes (Bye ssrcs reason) = AllByRecursion (λ ssrc. ssrc < 2 ^ 32) ssrcs
FitsTypes (App subtype ssrc name content) = (ssrc < 2 ^ 32) × (length name ≡ 4)
FitsTypes (Nack sender media words) = (sender < 2 ^ 32) × (media < 2 ^ 32) × AllByRecursion FitsWord words
FitsTypes (Pli sender media) = (sender < 2 ^ 32) × (media < 2 ^ 32)
FitsTypes (Other pt count body) = pt < 2 ^ 8

-- the largest count of five bits (RFC 3550 section 6.4.1)
abbrev pub most_count : ℕ
most_count = 31

-- a count that the common header can tell: of blocks, chunks or sources, a subtype or a format; a NACK has words
abbrev pub CountFits : Packet → Type 0
CountFits (Sender ssrc ntp ts packets octets blocks) = length blocks ≤ most_count
CountFits (Receiver ssrc blocks) = length blocks ≤ most_count
CountFits (Sdes chunks) = length chunks ≤ most_count
CountFits (Bye ssrcs reason) = length ssrcs ≤ most_count
CountFits (App subtype ssrc name content) = subtype ≤ most_count
CountFits (Nack sender media words) = 0 < length words
CountFits (Pli sender media) = ⊤
CountFits (Other pt count body) = count ≤ most_count

-- parts that their lengths can tell, and whole words
abbrev pub PartsFit : Packet → Type 0
PartsFit (Sender ssrc ntp ts packets octets blocks) = ⊤
PartsFit (Receiver ssrc blocks) = ⊤
PartsFit (Sdes chunks) = AllByRecursion (λ c. TextsFit c.items) chunks
PartsFit (Bye ssrcs reason) = IfSome reason (λ text. length text ≤ most_text)
PartsFit (App subtype ssrc name content) = length content % 4 ≡ 0
PartsFit (Nack sender media words) = ⊤
PartsFit (Pli sender media) = ⊤
PartsFit (Other pt count body) = length body % 4 ≡ 0

-- values that mean on the wire what they say: losses of 24 bits, items that aren't of type 0, an Other of no other kind
abbrev pub MeaningFits : Packet → Type 0
MeaningFits (Sender ssrc ntp ts packets octets blocks) = AllByRecursion (λ b. FitsLost b.lost) blocks
MeaningFits (Receiver ssrc blocks) = AllByRecursion (λ b. FitsLost b.lost) blocks
MeaningFits (Sdes chunks) = AllByRecursion (λ c. ItemsTold c.items) chunks
MeaningFits (Bye ssrcs reason) = ⊤
MeaningFits (App subtype ssrc name content) = ⊤
MeaningFits (Nack sender media words) = ⊤
MeaningFits (Pli sender media) = ⊤
MeaningFits (Other pt count body) = kind_of pt count ≡ kinds.Other

-- the four octets of the common header: the version 2, P and the count; the type; the number of 32-bit words behind
abbrev pub common_header : Bool → Packet → ℕ → List ℕ
common_header padded p words = (128 + (if padded then 32 else 0) + count_of p) ∷ type_of p ∷ to_be_bytes w16 words

-- the octets are those of the packet with so many octets of padding, which are whole words
pub record IsPacket (p : Packet) (padding : ℕ) (octets : List ℕ) : Type 0 where
  pub words : ℕ
  pub body : List ℕ
  pub padding_octets : List ℕ
  pub parts : octets ≡ common_header (nat_lt 0 padding) p words ++ (body ++ padding_octets)
  pub size : length octets ≡ 4 * (words + 1)
  pub words_fit : words < 2 ^ 16
  pub types : FitsTypes p
  pub counted : CountFits p
  pub lengths : PartsFit p
  pub meaning : MeaningFits p
  pub is_body : IsBody p body
  pub is_padding : IsPadding padding padding_octets
  pub padding_words : padding % 4 ≡ 0

-- the written form of a packet: no padding, null fill, nothing after the named parts
abbrev pub written_packet : Packet → List ℕ
written_packet p = common_header false p (length (filled (fields p)) / 4) ++ filled (fields p)
