-- Words of reading, inside the crate: what stands at the front of octets.
use Rattle.std.specs.Prelude.{◌≡◌, ℕ, ◌+◌, ◌%◌, ◌^◌, ◌<◌, ◌≤◌, Bool, true, false, List, [], ◌∷◌, ◌++◌, length, Option}
use Rattle.std.specs.Prelude.{Some, None, IfSome, ◌⊎◌}
use Rattle.std.specs.List.{flat_map, AllByRecursion}
use Rattle.rtcp_codec.specs.declared.fault.RtcpFault.{RtcpFault}
use Rattle.rtcp_codec.specs.Description.{Item, Chunk, item_octets, chunk_octets, FitsItem, FitsChunk}
use Rattle.rtcp_codec.specs.Packet.{Packet, kind, type_of, count_of, IsPacket, IsBody, Sender, Receiver, Sdes, Bye, App}
use Rattle.rtcp_codec.specs.Packet.{Nack, Pli, Other}
use Rattle.rtcp_codec.specs.declared.kind.PacketKind.TheVariants as kinds
use Rattle.rtcp_codec.specs.declared.report.ReportBlock.{ReportBlock}
use Rattle.rtcp_codec.specs.Kind.{kind_of}
use Rattle.rtcp_codec.specs.Nack.{FitsWord}
use Rattle.rtcp_codec.specs.Report.{FitsBlock, FitsLost}
use Rattle.rtcp_codec.specs.Compound.{version, size, is_padded, kind_at, IsReport, IsFirstOf, fault_order}

-- the octets begin with items and a null
abbrev pub HasItems : List ℕ → Type 0
HasItems octets =
    (items : List Item) × (rest : List ℕ) × AllByRecursion FitsItem items
    × (octets ≡ flat_map item_octets items ++ 0 ∷ rest)

-- the octets begin with a chunk
abbrev pub HasChunk : List ℕ → Type 0
HasChunk octets = (c : Chunk) × (rest : List ℕ) × FitsChunk c × (octets ≡ chunk_octets c ++ rest)

-- a block whose numbers all fit their fields
pub record IsSoundBlock (b : ReportBlock) : Type 0 where
  pub numbers : FitsBlock b
  pub lost : FitsLost b.lost

-- what fits the fields of a packet, the count apart
abbrev pub FitsFields : Packet → Type 0
FitsFields (Sender ssrc ntp ts packets octets blocks) =
    (ssrc < 2 ^ 32) × (ntp < 2 ^ 64) × (ts < 2 ^ 32) × (packets < 2 ^ 32) × (octets < 2 ^ 32)
    × AllByRecursion IsSoundBlock blocks
FitsFields (Receiver ssrc blocks) = (ssrc < 2 ^ 32) × AllByRecursion IsSoundBlock blocks
FitsFields (Sdes chunks) = AllByRecursion FitsChunk chunks
FitsFields (Bye ssrcs reason) =
    AllByRecursion (λ ssrc. ssrc < 2 ^ 32) ssrcs × IfSome reason (λ text. length text < 2 ^ 8)
FitsFields (App subtype ssrc name content) = (ssrc < 2 ^ 32) × (length name ≡ 4)
FitsFields (Nack sender media words) =
    (sender < 2 ^ 32) × (media < 2 ^ 32) × (0 < length words) × AllByRecursion FitsWord words
FitsFields (Pli sender media) = (sender < 2 ^ 32) × (media < 2 ^ 32)
FitsFields (Other pt count body) = (pt < 2 ^ 8) × (kind_of pt count ≡ kinds.Other)

-- what was read of a body is a packet of this type and count
pub record IsOf (pt n : ℕ) (body : List ℕ) (p : Packet) : Type 0 where
  pub its_type : type_of p ≡ pt
  pub its_count : count_of p ≡ n
  pub fits : FitsFields p
  pub is_body : IsBody p body

-- padding that may be: none, or on the last packet whole words that follow the common header
pub record IsGoodPadding (at_end : Bool) (n : ℕ) (packet : List ℕ) : Type 0 where
  pub none : is_padded packet ≡ false → n ≡ 0
  pub last : is_padded packet ≡ true → at_end ≡ true
  pub some : is_padded packet ≡ true → 0 < n
  pub words : n % 4 ≡ 0
  pub size : 4 + n ≤ length packet

-- a packet begins here by its common header, and is all there
pub record IsHead (first : Bool) (octets : List ℕ) : Type 0 where
  pub long : 4 ≤ length octets
  pub is_version : version octets ≡ 2
  pub report : first ≡ true → IsReport (kind_at octets)
  pub whole : size octets ≤ length octets

-- the octets begin with the packet, and then the rest comes: only the last may be padded, and the first is a report
pub record Takes (first : Bool) (p : Packet) (octets rest : List ℕ) : Type 0 where
  pub front : List ℕ
  pub padding : ℕ
  pub parts : octets ≡ front ++ rest
  pub is_packet : IsPacket p padding front
  pub report : first ≡ true → IsReport (kind p)
  pub last : 0 < padding → rest ≡ []

-- the octets are these packets one behind another, and then comes the end, or a packet that has this as its first fault
abbrev pub Reads : Bool → List Packet → Option RtcpFault → List ℕ → Type 0
Reads first [] None octets = (first ≡ false) × (octets ≡ [])
Reads first [] (Some fault) octets = ((first ≡ true) ⊎ (0 < length octets)) × IsFirstOf fault_order first fault octets
Reads first (p ∷ ps) outcome octets = (rest : List ℕ) × Takes first p octets rest × Reads false ps outcome rest

-- some packets are read, and then this comes
abbrev pub Ends : Bool → Option RtcpFault → List ℕ → Type 0
Ends first outcome octets = (ps : List Packet) × Reads first ps outcome octets
