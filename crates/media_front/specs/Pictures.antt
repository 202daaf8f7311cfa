-- Pictures that senders are asked for, where no datagram of theirs is the cause (RFC 4585 section 6.3.1; when it is
-- done is own).
use Rattle.std.specs.Prelude.{◌≡◌, ℕ, Bool, List, [], ◌∷◌, Option}
use Rattle.desk_rows.specs.Desk.{Desk}
use Rattle.sender_feedback.specs.Upstream.{Asker}
use Rattle.ingress.specs.Sources.{Origin}
use Rattle.ingress.specs.Ingested.{Ingested}
use Rattle.ingress.specs.Taking.{picture_request}
use Rattle.ingress.specs.declared.outcome.Outcome.TheVariants.{Unknown}
use Rattle.udp_wire.specs.Attempts.{Attempt}
use Rattle.media_front.specs.Paid.{is_paid_for}
use Rattle.media_front.specs.Fronts.{FrontOf, HasHandled}
use Rattle.media_front.specs.Waits.{silence}

-- what asks a source for a picture, as the answer to a datagram that is no member's
abbrev pub request_for : Asker → Origin → Ingested
request_for who o = record { outcome = Unknown; up = picture_request who o ∷ []; items = [] }

-- The source of this origin was asked for a picture, or the request was not sent since its address had too few tokens.
-- It is handled as an arrival of no octets that is no member's: it refills nothing, and costs its octets where it is
-- sent.
pub record HasAsked {P S : Type 0} (o : Origin) (sent : Bool) (old new : FrontOf P S)
    (before after : Option (List Attempt)) : Type 0 where
  pub handled : (desk : Desk) (moment : ℕ)
      → HasHandled (silence desk o.address moment) (request_for old.ingress.asker o) old new before after
  pub answer : sent ≡ is_paid_for (picture_request old.ingress.asker o) old.limiter
  pub same : new ≡ record old { limiter = new.limiter }
