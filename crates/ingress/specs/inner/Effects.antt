-- What comes of a datagram that was read.
use Rattle.std.specs.Prelude.{◌≡◌, ℕ, nat_lt, map}
use Rattle.media_items.specs.Inputs.{input_of}
use Rattle.ingress.specs.Ingested.{Ingested, datagram_of}
use Rattle.ingress.specs.declared.outcome.Outcome.TheVariants.{Rtcp}
use Rattle.ingress.specs.declared.ingest.Effect.{Effect}
use Rattle.ingress.specs.inner.Holding.{IngressOf}

-- the outcome, the datagrams that are sent back and the items, without where their octets lie
abbrev pub effect_of : {A : Type 0} → Effect A → Ingested
effect_of e = record { outcome = e.outcome; up = map datagram_of e.up.items; items = map input_of e.items.items }

-- What comes of an RTP packet says whether an epoch began, and its outcome is not that of a compound.
pub record IsOfPacket {A : Type 0} (old new : IngressOf) (effect : Effect A) : Type 0 where
  pub epoch : effect.begins ≡ nat_lt old.epochs new.epochs
  pub media : (n : ℕ) → effect.outcome ≡ Rtcp n → ⊥
