-- What a datagram was (RFC 3550 sections 5.1 and 6.1, RFC 5761 section 4).
use Rattle.std.specs.Prelude.{◌≡◌, ℕ, Bool, nat_lt, List, length, Option, None, IfSome, IfNone}
use Rattle.rtp_codec.specs.declared.address.Address.{Address}
use Rattle.rtp_codec.specs.declared.class.Class.TheVariants.{Rtp}
use Rattle.rtp_codec.specs.declared.writing.Header.{Header}
use Rattle.rtp_codec.specs.Class.{class_of}
use Rattle.rtp_codec.specs.Packet.{Packet, IsPacket}
use Rattle.rtcp_codec.specs.Compound.{IsCompound}
use Rattle.rtcp_codec.specs.View.{packets_of}
use Rattle.rtcp_codec.specs.declared.packet.Rtcp.{Rtcp as RtcpParts}
use Rattle.std.specs.declared.vec.Vec.{Vec}
use Rattle.desk_rows.specs.declared.row.Source.{Source}
use Rattle.desk_rows.specs.Desk.{Desk}
use Rattle.topology.specs.Looking.{source_from}
use Rattle.ingress.specs.Readings.{Reading, IsReading, too_long, neither, no_packet, packet, no_compound, compound}
use Rattle.ingress.specs.declared.outcome.Outcome.{Outcome}
use Rattle.ingress.specs.declared.outcome.Outcome.TheVariants.{Rtcp}
use Rattle.ingress.specs.declared.received.Received.{Received}
use Rattle.ingress.specs.declared.sound_count.SoundCount.{SoundCount}
use Rattle.ingress.specs.Energy.{sound_in}

-- The octets count as RTP and are those of a packet with this header.
abbrev pub HasHeader : List ℕ → Header → Type 0
HasHeader octets header =
    (class_of octets ≡ Rtp) × (packet : Packet) × IsPacket packet octets × (packet.header ≡ header)

-- the row of the source that a datagram from an address is a packet of
abbrev pub row_in : Desk → Address → Reading → Option Source
row_in desk from (packet p) = source_from desk p.header.ssrc from
row_in desk from too_long = None
row_in desk from neither = None
row_in desk from (no_packet fault) = None
row_in desk from (no_compound fault) = None
row_in desk from (compound packets) = None

-- a datagram by its parts
abbrev pub received_so : {A : Type 0} → Address → (moment octets : ℕ) → Option Header → Vec (RtcpParts A) A
    → Option Source → Outcome → Bool → SoundCount → Received A
received_so from moment octets header packets source outcome begins sound = record {
  from = from;
  moment = moment;
  octets = octets;
  header = header;
  packets = packets;
  source = source;
  outcome = outcome;
  begins = begins;
  sound = sound;
}

-- with this outcome, whether an epoch began, and what is counted of its sound
abbrev pub with_outcome : {A : Type 0} → Outcome → Bool → SoundCount → Received A → Received A
with_outcome outcome begins sound r = record r { outcome = outcome; begins = begins; sound = sound }

-- These octets came from an address at a moment, at these rows, where so many epochs had begun before, and so many
-- afterwards. What was received has the header of an RTP packet, and none if it is no such packet. It has the row of
-- its source, and the packets of a compound from a member. It says whether an epoch began, and counts the sound of an
-- accepted packet.
pub record IsReceived {A : Type 0} (desk : Desk) (sender : Address) (at : ℕ) (content : List ℕ) (before after : ℕ)
    (received : Received A) : Type 0 where
  pub rest : received ≡ record received { from = sender; moment = at; octets = length content }
  pub found : IfSome received.header (HasHeader content)
  pub none : IfNone received.header ((h : Header) → HasHeader content h → ⊥)
  pub row : (r : Reading) → IsReading content r → received.source ≡ row_in desk sender r
  pub reports : (n : ℕ) → received.outcome ≡ Rtcp n → IsCompound (packets_of received.packets.items) content
  pub epoch : received.begins ≡ nat_lt before after
  pub heard : (r : Reading) → IsReading content r → received.sound ≡ sound_in desk sender received.outcome r
