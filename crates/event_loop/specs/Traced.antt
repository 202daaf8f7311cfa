-- What a front tells its trace (own).
use Rattle.std.specs.Prelude.{◌≡◌, ℕ, Bool, true, false, List, Option}
use Rattle.std.specs.List.{FoldsTo}
use Rattle.rtp_codec.specs.declared.address.Address.{Address}
use Rattle.ingress.specs.Sources.{Origin}
use Rattle.trace_ring.specs.Sender.{IsHandedOn}
use Rattle.event_loop.specs.declared.trace.FrontDeed.{FrontDeed}
use Rattle.event_loop.specs.declared.trace.FrontDeed.TheVariants.{Took, Waited, Reported, Asked}
use Rattle.event_loop.specs.declared.trace.FrontTold.{FrontTold}

-- a deed of a front, and the version of the desk at which it was done: a datagram was taken in, time passed for a
-- video source, the reports were made, or a sender was asked for a picture
pub data DeedOf : Type 0 where
  took : (version moment : ℕ) → Address → List ℕ → DeedOf
  waited : (version moment : ℕ) → Origin → DeedOf
  reported : (version moment : ℕ) → DeedOf
  asked : (version : ℕ) → Address → ℕ → DeedOf

-- what was done at a version
abbrev pub deed_at : ℕ → FrontDeed → DeedOf
deed_at version (Took moment from octets) = took version moment from octets.items
deed_at version (Waited moment from ssrc) = waited version moment (record { address = from; ssrc = ssrc })
deed_at version (Reported moment) = reported version moment
deed_at version (Asked to ssrc) = asked version to ssrc

-- a deed as it was told
abbrev pub front_told : FrontTold → DeedOf
front_told t = deed_at t.version t.deed

-- the trace of a front: the version of its round, and what was told, if there is a trace
pub record FrontTraceOf : Type 0 where
  pub version : ℕ
  pub told : Option (List DeedOf)

-- One more deed was told, or the trace was given up; without a trace nothing changed.
abbrev pub IsTraced : DeedOf → FrontTraceOf → FrontTraceOf → Type 0
IsTraced deed old new = (new.version ≡ old.version) × IsHandedOn deed old.told new.told

-- The same, if this is so; else nothing changed.
abbrev pub IsTracedIf : Bool → DeedOf → FrontTraceOf → FrontTraceOf → Type 0
IsTracedIf true deed old new = IsTraced deed old new
IsTracedIf false deed old new = new ≡ old

-- It was told that time passed for the source of an origin.
abbrev pub IsWaitTold : (moment : ℕ) → FrontTraceOf → Origin → FrontTraceOf → Type 0
IsWaitTold moment old origin new = IsTraced (waited old.version moment origin) old new

-- It was told that time passed for the sources of these origins, in order.
abbrev pub AreWaits : (moment : ℕ) → List Origin → FrontTraceOf → FrontTraceOf → Type 0
AreWaits moment origins old new = FoldsTo (IsWaitTold moment) old origins new
