-- The packet that a view shows.
use Rattle.std.specs.Prelude.{ℕ, List, Option}
use Rattle.std.specs.Borrow.{Bor}
use Rattle.std.specs.Option.{option_map}
use Rattle.rtp_codec.specs.declared.view.RtpView.{RtpView}
use Rattle.rtp_codec.specs.Packet.{Packet}

-- a header extension, without where its words lie in memory
abbrev pub extension_of : Option (ℕ × Bor (List ℕ)) → Option (ℕ × List ℕ)
extension_of extension = option_map (λ e. (e.0, e.1.now)) extension

-- its parts, without where they lie in memory
abbrev pub packet_of : RtpView → Packet
packet_of v = record {
  header = record { marker = v.marker; pt = v.pt; seq = v.seq; ts = v.ts; ssrc = v.ssrc };
  csrc_octets = v.csrcs.now;
  extension = extension_of v.extension;
  payload = v.payload.now;
  padding = v.padding;
}
