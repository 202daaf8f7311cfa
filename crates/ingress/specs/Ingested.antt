-- The answer to a datagram (own).
use Rattle.std.specs.Prelude.{◌≡◌, ℕ, List, [], map}
use Rattle.std.specs.List.{AllByRecursion}
use Rattle.rtp_codec.specs.declared.address.Address.{Address}
use Rattle.ingress.specs.declared.outcome.Outcome.{Outcome}
use Rattle.ingress.specs.declared.outcome.Outcome.TheVariants.{Unknown}
use Rattle.media_items.specs.Inputs.{Input, frame, audio, tick, nack, block, pli, report, renew, input_of}
use Rattle.ingress.specs.declared.ingest.Ingest.{Ingest}
use Rattle.ingress.specs.declared.ingest.WaitAnswer.{WaitAnswer}
use Rattle.std.specs.declared.vec.Vec.{Vec}

-- its outcome, the datagrams that are sent back, and the items for the lanes
pub record Ingested : Type 0 where
  pub outcome : Outcome
  pub up : List (Address × List ℕ)
  pub items : List Input

-- no more than this outcome
abbrev pub only : Outcome → Ingested
only outcome = record { outcome = outcome; up = []; items = [] }

-- this outcome, and these items
abbrev pub with_items : Outcome → List Input → Ingested
with_items outcome items = record { outcome = outcome; up = []; items = items }

-- a datagram for an address, without where its octets lie
abbrev pub datagram_of : {A : Type 0} → Address × Vec ℕ A → Address × List ℕ
datagram_of d = (d.0, d.1.items)

-- what the receive side answers, without where its octets lie
abbrev pub ingested_of : {A : Type 0} → Ingest A → Ingested
ingested_of i =
    record { outcome = i.received.outcome; up = map datagram_of i.up.items; items = map input_of i.items.items }

-- what the receive side answers to a wait, as to a datagram of an unknown source
abbrev pub answered_of : {A : Type 0} → WaitAnswer A → Ingested
answered_of a = record { outcome = Unknown; up = map datagram_of a.up.items; items = map input_of a.items.items }

-- If an item asks or tells of an outgoing stream, it does so for this address: a NACK, a report block and a PLI.
abbrev pub SpeaksFor : Address → Input → Type 0
SpeaksFor from (nack request) = request.from ≡ from
SpeaksFor from (block told) = told.from ≡ from
SpeaksFor from (pli loss) = loss.from ≡ from
SpeaksFor from (frame f) = Unit {0}
SpeaksFor from (audio sound) = Unit {0}
SpeaksFor from (tick moment) = Unit {0}
SpeaksFor from (report moment) = Unit {0}
SpeaksFor from renew = Unit {0}

-- The answer is about one address alone: its items speak for no other, and nothing is sent to another.
pub record IsAbout (from : Address) (ingested : Ingested) : Type 0 where
  pub items : AllByRecursion (SpeaksFor from) ingested.items
  pub up : AllByRecursion (λ d. d.0 ≡ from) ingested.up
