-- The video source whose probation a datagram ended.
use Rattle.std.proofs.Common.{◌≡◌, ◌∙◌, ◌&&◌, ℕ, Bool, if◌then◌else◌, Option, None, refl, ap}
use Rattle.std.specs.Option.{option_and_then}
use Rattle.rtp_codec.specs.declared.address.Address.{Address}
use Rattle.desk_rows.specs.Desk.{Desk}
use Rattle.ingress.specs.declared.received.Received.{Received}
use Rattle.ingress.specs.Readings.{Reading, too_long, neither, no_packet, packet, no_compound, compound}
use Rattle.ingress.specs.Outcomes.{is_on_time}
use Rattle.ingress.specs.Received.{row_in, IsReceived}
use Rattle.ingress.specs.inner.Holding.{IngressOf}
use Rattle.media_front.specs.Fronts.{Arrival}
use Rattle.media_front.specs.Probations.{video_ssrc, video_in, ends_probation, EndsProbation}

same_video : (desk : Desk) (from : Address) (r : Reading)
    → option_and_then video_ssrc (row_in desk from r) ≡ video_in desk from r
same_video desk from too_long = refl
same_video desk from neither = refl
same_video desk from (no_packet fault) = refl
same_video desk from (packet p) = refl
same_video desk from (no_compound fault) = refl
same_video desk from (compound packets) = refl

-- the source in the row of what was received, if it is video and that ended a probation
abbrev pub ended_of : {A : Type 0} → Received A → Bool → Option ℕ
ended_of r ends = if ends then option_and_then video_ssrc r.source else None

pub ended : {A : Type 0} (arrival : Arrival) (old new : IngressOf) (r : Received A) (ssrc : Option ℕ)
    → ssrc ≡ ended_of r (is_on_time r.outcome && r.begins)
    → IsReceived arrival.desk arrival.from arrival.moment arrival.octets old.epochs new.epochs r
    → EndsProbation arrival r.outcome old new ssrc
ended arrival old new r ssrc is received = λ reading reads.
    is ∙ (ap (λ (b : Bool). ended_of r (is_on_time r.outcome && b)) received.epoch
    ∙ ap (λ (v : Option ℕ). if ends_probation r.outcome old.epochs new.epochs then v else None)
    (ap (option_and_then video_ssrc) (received.row reading reads) ∙ same_video arrival.desk arrival.from reading))
