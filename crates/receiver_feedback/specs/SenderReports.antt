-- What is reported of a stream to its receiver (RFC 3550 section 6.4.1; that it has no blocks is own).
use Rattle.std.specs.Prelude.{ℕ, List, [], ◌∷◌}
use Rattle.rtcp_codec.specs.Packet.{Packet, Sender}
use Rattle.rtcp_codec.specs.CanonicalName.{named}
use Rattle.forward_rewrite.specs.declared.counts.Counts.{Counts}
use Rattle.receiver_feedback.specs.Times.{ntp_of, ts_at}

-- a sender report of a moment without blocks, then the stream's canonical name
abbrev pub sender_packets : Counts → (moment : ℕ) → (cname : List ℕ) → List Packet
sender_packets c moment cname =
    Sender c.ssrc (ntp_of moment) (ts_at c moment) c.packets c.octets [] ∷ named c.ssrc cname ∷ []
