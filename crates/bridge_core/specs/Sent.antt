-- What lanes send, wherever its octets lie in memory (own).
use Rattle.std.specs.Prelude.{ℕ, List, Option}
use Rattle.rtp_codec.specs.declared.address.Address.{Address}
use Rattle.receiver_feedback.specs.declared.noting.LossNote.{LossNote}
use Rattle.bridge_core.specs.declared.egress.Egress.{Egress}
use Rattle.bridge_core.specs.declared.egress.Egress.TheVariants.{Media, Control, Note}

-- an RTP packet of an outgoing stream: by which version of the desk and as which item of its lane it was sent first, to
-- where, and by which version it is sent again, if it is
pub record MediaPacket : Type 0 where
  pub version : ℕ
  pub item : ℕ
  pub to : Address
  pub ssrc : ℕ
  pub number : ℕ
  pub bytes : List ℕ
  pub resent_by : Option ℕ

-- an RTCP compound: by which version of the desk and as which item of its lane it is sent, to where, and for which
-- outgoing stream
pub record ControlPacket : Type 0 where
  pub version : ℕ
  pub item : ℕ
  pub to : Address
  pub ssrc : ℕ
  pub bytes : List ℕ

-- what a receiver at an address tells of an outgoing stream: by which version of the desk and as which item of its lane
pub record Notice : Type 0 where
  pub version : ℕ
  pub item : ℕ
  pub from : Address
  pub note : LossNote

-- what a lane sends
pub data Sent : Type 0 where
  media : MediaPacket → Sent
  control : ControlPacket → Sent
  note : Notice → Sent

-- the SSRC of the outgoing stream that it is about
abbrev pub about : Sent → ℕ
about (media p) = p.ssrc
about (control p) = p.ssrc
about (note n) = n.note.out_ssrc

-- what a lane sends, without where its octets lie
abbrev pub sent_of : {A : Type 0} → Egress A → Sent
sent_of (Media version item to ssrc number bytes resent_by) =
    Sent.media record {
      version = version;
      item = item;
      to = to;
      ssrc = ssrc;
      number = number;
      bytes = bytes;
      resent_by = resent_by;
    }
sent_of (Control version item to ssrc bytes) =
    Sent.control record { version = version; item = item; to = to; ssrc = ssrc; bytes = bytes.items }
sent_of (Note version item from told) = Sent.note record { version = version; item = item; from = from; note = told }
