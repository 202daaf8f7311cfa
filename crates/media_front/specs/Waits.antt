-- Time that passes for video sources, and what comes of it (RFC 4585 sections 6.2.1 and 6.3.1; when it passes is own).
use Rattle.std.specs.Prelude.{◌≡◌, ◌⊎◌, ℕ, if◌then◌else◌, List, [], ◌∷◌, ◌++◌, Option, None, option_map}
use Rattle.std.specs.List.{filter_map, FoldsTo}
use Rattle.rtp_codec.specs.declared.address.Address.{Address}
use Rattle.desk_rows.specs.declared.row.Source.{Source}
use Rattle.desk_rows.specs.declared.row.Media.TheVariants.{Video}
use Rattle.desk_rows.specs.Row.{same_media}
use Rattle.desk_rows.specs.Desk.{Desk}
use Rattle.topology.specs.Looking.{member_at}
use Rattle.topology.specs.Choice.{sources_of}
use Rattle.ingress.specs.Sources.{Origin}
use Rattle.ingress.specs.Ingested.{Ingested}
use Rattle.ingress.specs.Ingresses.{WaitsFor}
use Rattle.ingress.specs.inner.Holding.{IngressOf}
use Rattle.ingress.specs.declared.outcome.Outcome.TheVariants.{Unknown}
use Rattle.udp_wire.specs.Attempts.{Attempt}
use Rattle.media_front.specs.Fronts.{FrontOf, Arrival, HasHandled}

-- nothing came from an address at a moment: an arrival of no octets
abbrev pub silence : Desk → Address → (moment : ℕ) → Arrival
silence desk from moment = record { desk = desk; from = from; moment = moment; octets = [] }

-- The receive side had a wait of the source of this origin. It is handled as an arrival of no octets that is no
-- member's: it refills nothing, and what is sent costs its octets.
pub record HasWaited {P S : Type 0} (desk : Desk) (o : Origin) (moment : ℕ) (old new : FrontOf P S)
    (before after : Option (List Attempt)) : Type 0 where
  pub ingested : Ingested
  pub became : ingested.outcome ≡ Unknown
  pub waits : WaitsFor old.ingress new.ingress ingested desk o moment
  pub handled : HasHandled (silence desk o.address moment) ingested old new before after

-- The receive side is as it was, or has had a wait of the source of this origin.
abbrev pub MayHaveWaited : Desk → Origin → (moment : ℕ) → IngressOf → IngressOf → Type 0
MayHaveWaited desk o moment old new = (new ≡ old) ⊎ ((ingested : Ingested) × WaitsFor old new ingested desk o moment)

-- where the packets of a video source come from: its member's address, and its SSRC
abbrev pub video_origin : Desk → Source → Option Origin
video_origin desk s =
    if same_media s.media Video
    then option_map (λ m. record { address = m.address; ssrc = s.ssrc }) (member_at desk s.member) else None

-- the origins of the video sources of a desk, on a good desk by rising SSRC
abbrev pub video_origins : Desk → List Origin
video_origins desk = filter_map (video_origin desk) (sources_of desk)

-- a front, and what was tried on its wire
abbrev pub OnWire : (P S : Type 0) → Type 0
OnWire P S = FrontOf P S × Option (List Attempt)

-- The source of this origin has waited once, at this moment. Nothing else happened.
pub record HasWaitedOnce {P S : Type 0} (desk : Desk) (moment : ℕ) (old : OnWire P S) (o : Origin) (new : OnWire P S)
    : Type 0 where
  pub waited : HasWaited desk o moment old.0 new.0 old.1 new.1
  pub same : new.0
      ≡ record old.0 {
        ingress = new.0.ingress;
        feed = new.0.feed;
        limiter = new.0.limiter;
        limited = new.0.limited;
      }
  pub asker : new.0.ingress.asker ≡ old.0.ingress.asker

-- The sources of these origins have waited, each once and in this order, at this moment.
abbrev pub HaveWaited : {P S : Type 0} → Desk → (moment : ℕ) → List Origin → (old new : FrontOf P S)
    → (before after : Option (List Attempt)) → Type 0
HaveWaited desk moment origins old new before after =
    FoldsTo (HasWaitedOnce desk moment) (old, before) origins (new, after)

-- Of these origins the first sources have waited. For the next one nothing was sent or given, though its wait may have
-- come to the receive side.
pub record HaveWaitedInPart {P S : Type 0} (desk : Desk) (moment : ℕ) (origins : List Origin) (old new : FrontOf P S)
    (before after : Option (List Attempt)) : Type 0 where
  pub first : List Origin
  pub next : Origin
  pub rest : List Origin
  pub order : origins ≡ first ++ next ∷ rest
  pub behind : FrontOf P S
  pub waited : HaveWaited desk moment first old behind before after
  pub unfed : new ≡ record behind { ingress = new.ingress }
  pub ingress : MayHaveWaited desk next moment behind.ingress new.ingress
