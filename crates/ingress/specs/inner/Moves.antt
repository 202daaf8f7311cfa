-- What the functions of the receive side say to one another.
use Rattle.std.specs.Prelude.{◌≡◌, ℕ, ◌+◌, ◌||◌, if◌then◌else◌, Option, None, Some}
use Rattle.std.specs.Option.{option_map}
use Rattle.source_valid.specs.inner.Kept.{Kept as SourceOf}
use Rattle.source_valid.specs.declared.verdict.Verdict.{Verdict}
use Rattle.source_valid.specs.declared.verdict.Verdict.TheVariants.{Probation, Accepted, Jump, Restarted}
use Rattle.source_valid.specs.Histories.{restarts}
use Rattle.frame_gate.specs.declared.packet.Place.{Place}
use Rattle.frame_gate.specs.Answer.{Answer}
use Rattle.frame_gate.specs.Packets.{NumberedPacket}
use Rattle.frame_gate.specs.Watched.{Waited}
use Rattle.frame_gate.specs.Waits.{PreparedWaitOf, answer_in}
use Rattle.ingress.specs.declared.outcome.Outcome.{Outcome}
use Rattle.ingress.specs.declared.outcome.Outcome.TheVariants as outcomes
use Rattle.ingress.specs.declared.known.OriginKey.{OriginKey}
use Rattle.ingress.specs.Sources.{Origin}
use Rattle.ingress.specs.Ingested.{Ingested}
use Rattle.ingress.specs.Media.{MediaPacket, origin_of, placed, frames_from}
use Rattle.ingress.specs.Taking.{Voice, IsVoice, asked_of}
use Rattle.ingress.specs.inner.SourceEntries.{EntryOf, ValidatedOf, AdmissionOf, NextOf, Admits, Becomes, gate_for}
use Rattle.ingress.specs.inner.Holding.{IngressOf, WaitedAt, key_of, kept_for, put_first}

-- the source of what is kept
abbrev pub state_in : Option EntryOf → Option SourceOf
state_in kept = option_map (λ k. k.source) kept

abbrev pub epoch_in : Option EntryOf → ℕ
epoch_in None = 0
epoch_in (Some k) = k.epoch

-- a source with a judged packet, where so many epochs have begun
abbrev pub next_of : Option EntryOf → ℕ → ValidatedOf → Option AdmissionOf → NextOf
next_of kept epochs j admission =
    record {
      rate = j.rate;
      source = j.source;
      epoch = if j.begins then epochs + 1 else epoch_in kept;
      begins = j.begins;
      admission = admission;
    }

-- This is kept now, before the others.
abbrev pub IsKept : IngressOf → IngressOf → OriginKey → NextOf → Type 0
IsKept old new key next =
    (k : EntryOf) × Becomes (kept_for key next.rate old.entries) next k
    × (new
    ≡ record {
      asker = old.asker;
      entries = put_first key k old.entries;
      epochs = if next.begins then old.epochs + 1 else old.epochs;
    })

-- the same, of a source with a judged packet
abbrev pub Advances : IngressOf → IngressOf → OriginKey → ValidatedOf → Option AdmissionOf → Type 0
Advances old new key j admission = IsKept old new key (next_of (kept_for key j.rate old.entries) old.epochs j admission)

-- the outcome of a packet that came to the gate
abbrev pub outcome_at : Verdict → Place → Outcome
outcome_at Probation place = outcomes.Probation
outcome_at (Accepted ext) place = placed ext place
outcome_at Jump place = outcomes.Jump
outcome_at (Restarted ext) place = outcomes.Restarted ext

-- what is answered where the gate answers so
abbrev pub given : Voice → MediaPacket → ℕ → Verdict → Answer → Ingested
given voice c epoch verdict answer = record {
  outcome = outcome_at verdict answer.place;
  up = asked_of voice (origin_of c) answer.nacks (restarts verdict || answer.pli);
  items = frames_from (origin_of c) c.moment epoch answer.frames;
}

-- The packet came to the source's gate.
pub record Gates (old new : IngressOf) (key : OriginKey) (j : ValidatedOf) (c : MediaPacket) (p : NumberedPacket)
    (ingested : Ingested) : Type 0 where
  pub admission : AdmissionOf
  pub admits : Admits (gate_for (kept_for key j.rate old.entries) j.begins) p admission
  pub advances : Advances old new key j (Some admission)
  pub answers : (voice : Voice) → IsVoice voice → voice.asker ≡ old.asker
      → ingested
      ≡ given voice c (next_of (kept_for key j.rate old.entries) old.epochs j (Some admission)).epoch j.verdict
      admission.prepared.prepared.answer

-- what is answered where the gate answers a wait so
abbrev pub wait_given : Voice → Origin → (moment epoch : ℕ) → Waited → Ingested
wait_given voice o moment epoch answer = record {
  outcome = outcomes.Unknown;
  up = asked_of voice o answer.nacks answer.pli;
  items = frames_from o moment epoch answer.frames;
}

-- The prepared wait was committed at the source's gate.
pub record WaitsAtGate (old new : IngressOf) (o : Origin) (moment : ℕ) (r : PreparedWaitOf)
    (ingested : Ingested) : Type 0 where
  pub epoch : ℕ
  pub waited : WaitedAt old.entries new.entries (key_of o) r epoch
  pub others : new ≡ record old { entries = new.entries }
  pub answers : (voice : Voice) → IsVoice voice → voice.asker ≡ old.asker
      → ingested ≡ wait_given voice o moment epoch (answer_in r)
