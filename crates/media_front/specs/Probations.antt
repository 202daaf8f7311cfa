-- The video source whose probation a datagram ended (RFC 3550 section A.1; that its sender is asked for a picture is
-- own).
use Rattle.std.specs.Prelude.{◌≡◌, ℕ, Bool, ◌&&◌, nat_lt, if◌then◌else◌, List, Option, None, Some}
use Rattle.std.specs.Option.{option_and_then}
use Rattle.rtp_codec.specs.declared.address.Address.{Address}
use Rattle.desk_rows.specs.declared.row.Source.{Source}
use Rattle.desk_rows.specs.declared.row.Media.TheVariants.{Video}
use Rattle.desk_rows.specs.Row.{same_media}
use Rattle.desk_rows.specs.Desk.{Desk}
use Rattle.topology.specs.Looking.{source_from}
use Rattle.ingress.specs.Readings.{Reading, IsReading, too_long, neither, no_packet, packet, no_compound, compound}
use Rattle.ingress.specs.declared.outcome.Outcome.{Outcome}
use Rattle.ingress.specs.Outcomes.{is_on_time}
use Rattle.ingress.specs.inner.Holding.{IngressOf}
use Rattle.media_front.specs.Fronts.{Arrival}

-- the SSRC of a source, if it is video
abbrev pub video_ssrc : Source → Option ℕ
video_ssrc s = if same_media s.media Video then Some s.ssrc else None

-- the SSRC of the video source that a datagram from an address is a packet of
abbrev pub video_in : Desk → Address → Reading → Option ℕ
video_in desk from (packet p) = option_and_then video_ssrc (source_from desk p.header.ssrc from)
video_in desk from too_long = None
video_in desk from neither = None
video_in desk from (no_packet fault) = None
video_in desk from (no_compound fault) = None
video_in desk from (compound packets) = None

-- whether a datagram ended a probation: it was accepted on time, and began an epoch
abbrev pub ends_probation : Outcome → (before after : ℕ) → Bool
ends_probation outcome before after = is_on_time outcome && nat_lt before after

-- The datagram ended the probation of the video source of this SSRC, or of none.
abbrev pub EndsProbation : Arrival → Outcome → (old new : IngressOf) → Option ℕ → Type 0
EndsProbation arrival outcome old new ended =
    (r : Reading) → IsReading arrival.octets r → ended
    ≡ (if ends_probation outcome old.epochs new.epochs then video_in arrival.desk arrival.from r else None)
