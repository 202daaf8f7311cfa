-- What an outgoing video stream sends of the frames routed to it: their packets, numbered in a row (RFC 7667 section
-- 3.6.2; one contributing source and the numbers of one row of packets are own).
use Rattle.std.specs.Prelude.{ℕ, ◌+◌, ◌%◌, ◌^◌, List, [], ◌∷◌, map}
use Rattle.std.specs.List.{flat_map}
use Rattle.rtp_codec.specs.declared.writing.Header.{Header}
use Rattle.rtp_codec.specs.Packet.{written}
use Rattle.frame_gate.specs.Frame.{SourcePacket}
use Rattle.retransmit.specs.SentPacket.{SentPacket}
use Rattle.forward_rewrite.specs.Sending.{Sending}
use Rattle.forward_rewrite.specs.Timestamps.{Stamped, stamped}

-- a packet of a frame that is sent, and the timestamp of its frame
pub record Part : Type 0 where
  pub sending : Sending
  pub ts : ℕ
  pub packet : SourcePacket

-- a packet of a frame that is sent under a timestamp
abbrev pub part_of : Stamped → SourcePacket → Part
part_of s packet = record { sending = s.sending; ts = s.ts; packet = packet }

-- the packets of frames in a row
abbrev pub parts : List Stamped → List Part
parts frames = flat_map (λ s. map (part_of s) s.sending.frame.frame.packets) frames

-- the header of a packet: its own marker and payload type, the stream's number, timestamp and SSRC
abbrev pub header_of : ℕ → ℕ → ℕ → SourcePacket → Header
header_of ssrc number ts packet =
    record { marker = packet.marker; pt = packet.pt; seq = number; ts = ts; ssrc = ssrc }

-- a packet as it is written, the source being the one contributing source
abbrev pub octets : ℕ → ℕ → Part → List ℕ
octets ssrc number part =
    written (header_of ssrc number part.ts part.packet) (part.sending.frame.source ∷ []) part.packet.payload

-- a packet as it is sent under this number
abbrev pub sent_packet : ℕ → ℕ → Part → SentPacket
sent_packet ssrc number part = record {
  number = number;
  owner = part.sending.owner;
  version = part.sending.version;
  item = part.sending.item;
  source = part.sending.frame.source;
  address = part.sending.frame.address;
  epoch = part.sending.frame.epoch;
  ext = part.packet.ext;
  bytes = octets ssrc number part;
}

-- packets in a row, the first of them with this number modulo 2 ^ 16
abbrev pub numbered : ℕ → ℕ → List Part → List SentPacket
numbered ssrc number [] = []
numbered ssrc number (part ∷ parts) = sent_packet ssrc (number % 2 ^ 16) part ∷ numbered ssrc (number + 1) parts

-- all that the stream sends of these frames
abbrev pub packets_of : ℕ → ℕ → ℕ → List Sending → List SentPacket
packets_of ssrc first_seq first_ts sendings = numbered ssrc first_seq (parts (stamped first_ts sendings))
