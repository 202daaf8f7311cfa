-- What a receive side answers (own).
use Rattle.std.specs.Prelude.{◌≡◌, ℕ, List}
use Rattle.ingress.specs.Readings.{Reading, IsReading}
use Rattle.ingress.specs.Sources.{Origin, Sources}
use Rattle.ingress.specs.Ingested.{Ingested}
use Rattle.ingress.specs.Taking.{Voice, IsVoice, Datagram, taken_in}
use Rattle.ingress.specs.inner.Holding.{Holds, IngressOf}
use Rattle.ingress.specs.Waiting.{waited_for}
use Rattle.ingress.specs.Reported.{reported}
use Rattle.rtp_codec.specs.declared.address.Address.{Address}
use Rattle.desk_rows.specs.Desk.{Desk}

-- These are the sources that the receive side knows.
pub record Knows (i : IngressOf) (s : Sources) : Type 0 where
  pub holds : Holds i.entries s.known
  pub epochs : i.epochs ≡ s.epochs

-- Whatever sources the old ingress knew, this is what happens there: the answer, and the sources that the new one
-- knows.
abbrev pub Moves : IngressOf → IngressOf → Ingested → (Voice → Sources → Ingested × Sources) → Type 0
Moves old new ingested happens =
    (voice : Voice) (s : Sources) → IsVoice voice → voice.asker ≡ old.asker → Knows old s
    → (ingested ≡ (happens voice s).0) × Knows new (happens voice s).1

-- Whatever sources the old ingress knew, and whatever a datagram's octets are, this is the answer to it.
abbrev pub TakesIn : IngressOf → IngressOf → Ingested → List ℕ → (Reading → Datagram) → Type 0
TakesIn old new ingested octets datagram =
    (r : Reading) → IsReading octets r → Moves old new ingested (λ voice s. taken_in voice s (datagram r))

-- Whatever sources the old ingress knew, these are the reports on them to their senders, and the new one knows them
-- with their new intervals.
abbrev pub TellsSenders : IngressOf → IngressOf → List (Address × List ℕ) → Desk → ℕ → Type 0
TellsSenders old new told desk moment =
    (s : Sources) → Knows old s
    → (told ≡ (reported old.asker desk moment s).0) × Knows new (reported old.asker desk moment s).1

-- Whatever sources the old ingress knew, this is the answer to a wait of a source, and the new one knows the sources
-- after it.
abbrev pub WaitsFor : IngressOf → IngressOf → Ingested → Desk → Origin → (moment : ℕ) → Type 0
WaitsFor old new answered desk o moment = Moves old new answered (λ voice s. waited_for voice desk o moment s)
