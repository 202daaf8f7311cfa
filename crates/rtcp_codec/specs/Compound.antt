-- The compound grammar, and why a datagram is no compound (RFC 3550 section 6.1 and A.2).
use Rattle.std.specs.Prelude.{◌≡◌, ◌≢◌, ℕ, ◌+◌, ◌-◌, ◌*◌, ◌/◌, ◌%◌, ◌<◌, ◌≤◌, ◌==◌, Bool, true, false, if◌then◌else◌}
use Rattle.std.specs.Prelude.{List, [], ◌∷◌, ◌++◌, length, take, drop, map, slice_index, ◌⊎◌, ⊤}
use Rattle.std.specs.List.{flat_map, AllByRecursion}
use Rattle.std.specs.Int.{w16, from_be_bytes}
use Rattle.rtcp_codec.specs.declared.kind.PacketKind.{PacketKind}
use Rattle.rtcp_codec.specs.declared.kind.PacketKind.TheVariants as kinds
use Rattle.rtcp_codec.specs.declared.fault.RtcpFault.{RtcpFault}
use Rattle.rtcp_codec.specs.declared.fault.RtcpFault.TheVariants.{Short, Version, First, Length, Padding, Body}
use Rattle.rtcp_codec.specs.declared.fault.RtcpFault.TheVariants.{OutOfMemory}
use Rattle.rtcp_codec.specs.Description.{HasChunks}
use Rattle.rtcp_codec.specs.Kind.{kind_of}
use Rattle.rtcp_codec.specs.Packet.{Packet, kind, IsPacket, written_packet}

-- the version of the packet that begins here, by its common header
abbrev pub version : List ℕ → ℕ
version octets = slice_index octets 0 / 64

-- its P
abbrev pub is_padded : List ℕ → Bool
is_padded octets = slice_index octets 0 / 32 % 2 == 1

-- its count: of blocks, chunks or sources, the subtype of an APP, the format of feedback
abbrev pub count : List ℕ → ℕ
count octets = slice_index octets 0 % 32

-- how many octets the packet has by its length field
abbrev pub size : List ℕ → ℕ
size octets = 4 * (from_be_bytes w16 (take 2 (drop 2 octets)) + 1)

-- the kind of the packet that begins here
abbrev pub kind_at : List ℕ → PacketKind
kind_at octets = kind_of (slice_index octets 1) (count octets)

-- how many octets of padding a packet has, by its last octet where P is set
abbrev pub padding_of : List ℕ → ℕ
padding_of packet = if is_padded packet then slice_index packet (length packet - 1) else 0

-- what follows a packet's common header, without the padding
abbrev pub body_of : List ℕ → List ℕ
body_of packet = take (length packet - padding_of packet - 4) (drop 4 packet)

-- a report, with which each compound begins
abbrev pub IsReport : PacketKind → Type 0
IsReport k = (k ≡ kinds.Sender) ⊎ (k ≡ kinds.Receiver)

-- a reason for leaving is whole: there is none, or its length isn't more than what follows
abbrev pub IsWholeReason : List ℕ → Type 0
IsWholeReason [] = ⊤
IsWholeReason (n ∷ octets) = n ≤ length octets

-- a body of a packet of this kind and count has all of its named parts
abbrev pub IsWholeBody : PacketKind → ℕ → List ℕ → Type 0
IsWholeBody kinds.Sender n body = 24 + 24 * n ≤ length body
IsWholeBody kinds.Receiver n body = 4 + 24 * n ≤ length body
IsWholeBody kinds.Sdes n body = HasChunks n body
IsWholeBody kinds.Bye n body = (4 * n ≤ length body) × IsWholeReason (drop (4 * n) body)
IsWholeBody kinds.App n body = 8 ≤ length body
IsWholeBody kinds.Nack n body = 12 ≤ length body
IsWholeBody kinds.Pli n body = 8 ≤ length body
IsWholeBody kinds.Other n body = ⊤

-- a count of padding that can't be: 0, no whole words, or more than follows the common header
abbrev pub IsBadPadding : ℕ → List ℕ → Type 0
IsBadPadding n packet = (n ≡ 0) ⊎ ((n % 4 ≢ 0) ⊎ (length packet < 4 + n))

-- the octets of the packet that begins here
abbrev pub packet_at : List ℕ → List ℕ
packet_at octets = take (size octets) octets

-- the case of each fault, of the packet that begins here; first: no packet stands before it
abbrev pub Case : Bool → RtcpFault → List ℕ → Type 0
Case first Short octets = (first ≡ true) × (length octets < 4)
Case first Version octets = (4 ≤ length octets) × (version octets ≢ 2)
Case first First octets = (first ≡ true) × (¬ IsReport (kind_at octets))
Case first Length octets = length octets < size octets
Case first Padding octets =
    (is_padded (packet_at octets) ≡ true)
    × ((size octets < length octets) ⊎ IsBadPadding (padding_of (packet_at octets)) (packet_at octets))
Case first Body octets =
    ¬ IsWholeBody (kind_at (packet_at octets)) (count (packet_at octets)) (body_of (packet_at octets))
Case first OutOfMemory octets = ⊥

-- the fault is the first of these whose case holds
abbrev pub IsFirstOf : List RtcpFault → Bool → RtcpFault → List ℕ → Type 0
IsFirstOf [] first fault octets = ⊥
IsFirstOf (f ∷ fs) first fault octets =
    (Case first f octets × (fault ≡ f)) ⊎ ((¬ Case first f octets) × IsFirstOf fs first fault octets)

-- the faults in the order in which they are checked
abbrev pub fault_order : List RtcpFault
fault_order = Short ∷ Version ∷ First ∷ Length ∷ Padding ∷ Body ∷ []

-- a packet where it stands in a compound: its octets, and how many of these are padding
pub record Part : Type 0 where
  pub packet : Packet
  pub octets : List ℕ
  pub padding : ℕ

-- the octets are those of the packet with this padding
abbrev pub IsPart : Part → Type 0
IsPart p = IsPacket p.packet p.padding p.octets

-- the octets of parts one behind another
abbrev pub joined : List Part → List ℕ
joined parts = flat_map (λ p. p.octets) parts

-- the packets of parts
abbrev pub packets_in : List Part → List Packet
packets_in parts = map (λ p. p.packet) parts

-- no part has padding
abbrev pub AreUnpadded : List Part → Type 0
AreUnpadded parts = AllByRecursion (λ p. p.padding ≡ 0) parts

-- no part has padding but the last
abbrev pub LastAloneIsPadded : List Part → Type 0
LastAloneIsPadded [] = ⊤
LastAloneIsPadded (p ∷ []) = ⊤
LastAloneIsPadded (p ∷ q ∷ parts) = (p.padding ≡ 0) × LastAloneIsPadded (q ∷ parts)

-- the first packet is a report
abbrev pub BeginsWithReport : List Packet → Type 0
BeginsWithReport [] = ⊥
BeginsWithReport (p ∷ ps) = IsReport (kind p)

-- the octets are the compound of these packets: its parts joined, the first a report, none padded but the last
pub record IsCompound (ps : List Packet) (octets : List ℕ) : Type 0 where
  pub parts : List Part
  pub packets : packets_in parts ≡ ps
  pub whole : octets ≡ joined parts
  pub each : AllByRecursion IsPart parts
  pub report : BeginsWithReport ps
  pub unpadded : LastAloneIsPadded parts

-- behind good packets comes one that has this as its first fault
pub record HasLaterFault (fault : RtcpFault) (octets : List ℕ) : Type 0 where
  pub before : List Part
  pub rest : List ℕ
  pub whole : octets ≡ joined before ++ rest
  pub each : AllByRecursion IsPart before
  pub report : BeginsWithReport (packets_in before)
  pub unpadded : AreUnpadded before
  pub some : 0 < length rest
  pub its_fault : IsFirstOf fault_order false fault rest

-- the first packet has this as its first fault, or it has none and a later one has
abbrev pub HasFault : RtcpFault → List ℕ → Type 0
HasFault fault octets = IsFirstOf fault_order true fault octets ⊎ HasLaterFault fault octets

-- the written form of a compound: its packets in order
abbrev pub written : List Packet → List ℕ
written ps = flat_map written_packet ps
