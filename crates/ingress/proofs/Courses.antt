-- What is kept of a source stands to its story as before, with one more packet.
use Rattle.std.proofs.Common.{◌≡◌, ℕ, ◌+◌, Bool, true, false, nat_eq, if◌then◌else◌, List, [], ◌∷◌, ◌++◌, Option, None}
use Rattle.std.proofs.Common.{Some, refl, sym, ap, subst, ◌∙◌}
use Rattle.source_valid.specs.Histories.{Number, standing_of}
use Rattle.source_valid.specs.Represents.{Represents as IsGiven}
use Rattle.source_valid.specs.declared.verdict.Verdict.{Verdict}
use Rattle.frame_gate.specs.Packets.{NumberedPacket}
use Rattle.frame_gate.specs.Watched.{GateEvent, came}
use Rattle.frame_gate.specs.Admits.{Answers}
use Rattle.ingress.specs.Stories.{Story, RtpArrival, untold, story_by, validated, begins, validated_on, initialises}
use Rattle.ingress.specs.Stories.{arrival}
use Rattle.ingress.specs.Stories.{gate_epoch}
use Rattle.ingress.specs.inner.SourceEntries.{EntryOf, ValidatedOf, AdmissionOf, HasGiven, HasGateEvents, Keeps}
use Rattle.ingress.specs.inner.SourceEntries.{Validates}
use Rattle.ingress.specs.inner.SourceEntries.{Becomes, Admits}
use Rattle.ingress.specs.inner.SourceEntries.{gate_in, gate_for, kept_by}
use Rattle.ingress.specs.inner.Moves.{state_in, epoch_in, next_of}

-- what is kept, if anything, of a source with this story, if it has one
abbrev pub KeepsAny : Option EntryOf → Option Story → Type 0
KeepsAny None None = Unit {0}
KeepsAny None (Some story) = ⊥
KeepsAny (Some k) None = ⊥
KeepsAny (Some k) (Some story) = Keeps k story

pub record StandsAt (kept : Option EntryOf) (story : Story) : Type 0 where
  pub given : HasGiven (state_in kept) story.given
  pub epoch : epoch_in kept ≡ story.epoch
  pub gate_events : HasGateEvents (gate_in kept) story.gate_events

stands_so : (rate : ℕ) (k : EntryOf) (story : Story) (b d : Bool) → b ≡ d → Keeps k story
    → StandsAt (if b then Some k else None) (if d then story else untold rate)
stands_so rate k story true true e h = record { given = h.given; epoch = h.epoch; gate_events = h.gate_events }
stands_so rate k story false false e h = record { given = refl; epoch = refl; gate_events = refl }
stands_so rate k story true false e h = cc
stands_so rate k story false true e h = cc

pub stands_at : (rate : ℕ) (kept : Option EntryOf) (story : Option Story) → KeepsAny kept story
    → StandsAt (kept_by rate kept) (story_by rate story)
stands_at rate None None h = record { given = refl; epoch = refl; gate_events = refl }
stands_at rate None (Some story) h = absurd h
stands_at rate (Some k) None h = absurd h
stands_at rate (Some k) (Some story) h =
    stands_so rate k story (nat_eq k.rate rate) (nat_eq story.rate rate) (ap (λ r. nat_eq r rate) h.rate) h

gate_events_by : (kept : Option EntryOf) (events : List GateEvent) (b : Bool) → HasGateEvents (gate_in kept) events
    → HasGateEvents (gate_for kept b) (if b then [] else events)
gate_events_by None events true h = refl
gate_events_by None events false h = h
gate_events_by (Some k) events true h = refl
gate_events_by (Some k) events false h = h

module _ (kept : Option EntryOf) (story : Story) (epochs : ℕ) (m : RtpArrival) (j : ValidatedOf)
    (at : StandsAt kept story)
    (validates : Validates (state_in kept) m j) where
  pub verdict_is : j.verdict ≡ validated story m.seq
  verdict_is = validates.verdict story.given at.given

  pub begins_is : j.begins ≡ begins story m.seq
  begins_is = validates.begins story.given at.given ∙ ap (initialises (standing_of story.given)) verdict_is

  pub given_is : IsGiven j.source (validated_on story epochs m).given
  given_is =
      subst (λ (v : Verdict). IsGiven j.source (story.given ++ Number m.seq ∷ arrival v m)) verdict_is
      (validates.given story.given at.given)

  pub epoch_is : (a : Option AdmissionOf) → (next_of kept epochs j a).epoch ≡ (validated_on story epochs m).epoch
  epoch_is a =
      ap (λ b. if b then epochs + 1 else epoch_in kept) begins_is
      ∙ ap (λ e. if begins story m.seq then epochs + 1 else e) at.epoch

  pub gate_events_are : HasGateEvents (gate_for kept j.begins) (validated_on story epochs m).gate_events
  gate_events_are =
      subst (λ b. HasGateEvents (gate_for kept j.begins) (if b then [] else story.gate_events)) begins_is
      (gate_events_by kept story.gate_events j.begins at.gate_events)

  pub keeps_verdict_only : (new : EntryOf) → Becomes kept (next_of kept epochs j None) new
      → Keeps new (validated_on story epochs m)
  keeps_verdict_only new becomes = record {
    rate = becomes.rate ∙ validates.rate;
    given = subst (λ x. IsGiven x (validated_on story epochs m).given) (sym becomes.source) given_is;
    epoch = becomes.epoch ∙ epoch_is None;
    gate_events =
        subst (λ g. HasGateEvents g (validated_on story epochs m).gate_events) (sym becomes.gate) gate_events_are;
  }

  -- the story with the packet at the gate
  abbrev pub with_packet : NumberedPacket → Story
  with_packet p =
      record {
        rate = m.rate;
        given = (validated_on story epochs m).given;
        epoch = (validated_on story epochs m).epoch;
        gate_events = (validated_on story epochs m).gate_events ++ came p ∷ [];
      }

  module _ (p : NumberedPacket) (a : AdmissionOf) (new : EntryOf) (admits : Admits (gate_for kept j.begins) p a)
      (becomes : Becomes kept (next_of kept epochs j (Some a)) new) where
    both : Answers (gate_epoch (validated_on story epochs m)) p a.prepared.prepared.answer
        × HasGateEvents new.gate (with_packet p).gate_events
    both =
        let commits_all = becomes.gate in
        let told =
        admits.after (validated_on story epochs m).gate_events commits_all.base commits_all.gate gate_events_are
        commits_all.before commits_all.commits in
        (told.0, subst (λ g. HasGateEvents g (with_packet p).gate_events) (sym commits_all.now) told.1)

    pub answers_is : Answers (gate_epoch (validated_on story epochs m)) p a.prepared.prepared.answer
    answers_is = both.0

    pub keeps_packet : Keeps new (with_packet p)
    keeps_packet = record {
      rate = becomes.rate ∙ validates.rate;
      given = subst (λ x. IsGiven x (validated_on story epochs m).given) (sym becomes.source) given_is;
      epoch = becomes.epoch ∙ epoch_is (Some a);
      gate_events = both.1;
    }
