-- What a wait comes to for the sources that are known.
use Rattle.std.proofs.Common.{◌≡◌, ℕ, List, [], ◌∷◌, length, drop, Option, None, Some, is_some, refl, sym, ap, subst}
use Rattle.std.proofs.Common.{◌∙◌}
use Rattle.frame_gate.specs.Epochs.{frames_of}
use Rattle.frame_gate.specs.Watched.{GateEvent, wait, Watch, watch_of, lost_in, Waited, AnswersWait}
use Rattle.frame_gate.specs.Waits.{WatchedOf as GateOf, PreparedWaitOf, CommitsWait, PreparesWait, answer_in}
use Rattle.ingress.specs.declared.outcome.Outcome.TheVariants.{Unknown}
use Rattle.ingress.specs.declared.known.OriginKey.{OriginKey}
use Rattle.ingress.specs.Stories.{Story}
use Rattle.ingress.specs.Sources.{Origin, Known, story_at, retold}
use Rattle.ingress.specs.Ingested.{Ingested, only}
use Rattle.ingress.specs.Media.{frames_from}
use Rattle.ingress.specs.Taking.{Voice, asked_of}
use Rattle.ingress.specs.Waiting.{asked_again, freed, with_wait, waited_on, wait_at, wait_in, video_waited}
use Rattle.ingress.specs.Ingresses.{Moves}
use Rattle.ingress.specs.inner.SourceEntries.{EntryOf, HasGateEvents, Keeps, HasWaited, ReadiesWait, gate_in}
use Rattle.ingress.specs.inner.Holding.{IngressOf, Holds, key_of, kept_at}
use Rattle.ingress.specs.inner.Moves.{wait_given, WaitsAtGate}
use Rattle.ingress.proofs.Answered.{ingested}
use Rattle.ingress.proofs.AtGates.{one_more}
use Rattle.ingress.proofs.Courses.{KeepsAny}
use Rattle.ingress.proofs.Happens.{drop-front}
use Rattle.ingress.proofs.KnownSources.{kept_story, holds_retold, holds_same, holds_told}

-- ---- without a gate

nothing_came : (k : EntryOf) (story : Story) → k.gate ≡ None → Keeps k story → story.gate_events ≡ []
nothing_came k story none keeps = subst (λ g. HasGateEvents g story.gate_events) none keeps.gate_events

no_answer : (voice : Voice) (o : Origin) (moment : ℕ) (kept : Option EntryOf) (story : Option Story)
    → KeepsAny kept story → gate_in kept ≡ None → only Unknown ≡ wait_in voice o moment story
no_answer voice o moment None None h none = refl
no_answer voice o moment None (Some story) h none = absurd h
no_answer voice o moment (Some k) None h none = absurd h
no_answer voice o moment (Some k) (Some story) h none =
    sym (ap (λ events. wait_at voice o moment story.epoch (watch_of events)) (nothing_came k story none h))

keeps_none : (k : EntryOf) (story : Story) → k.gate ≡ None → Keeps k story → Keeps k (waited_on story)
keeps_none k story none keeps = record {
  rate = keeps.rate;
  given = keeps.given;
  epoch = keeps.epoch;
  gate_events =
      subst (λ events. HasGateEvents k.gate (with_wait events)) (sym (nothing_came k story none keeps))
      (subst (λ g. HasGateEvents g []) (sym none) refl);
}

holds_none : (o : Origin) (es : List (OriginKey × EntryOf)) (ks : List Known) → Holds es ks
    → gate_in (kept_at (key_of o) es) ≡ None → Holds es (retold o waited_on ks)
holds_none o es ks h none =
    (elim (kept_at (key_of o) es)
    as (λ x. kept_at (key_of o) es ≡ x → gate_in x ≡ None → Holds es (retold o waited_on ks)) [
      | None ↦ λ is n. holds_same o waited_on es ks h is
      | Some k ↦ λ is n. holds_told o waited_on k es ks h is (λ story. keeps_none k story n)
    ]) refl none

pub unready : (gate : Option GateOf) → ReadiesWait gate None → gate ≡ None
unready None h = refl
unready (Some gate) h = absurd h

-- a wait of a source that is unknown or has no gate
pub nothing_waits : (old : IngressOf) (o : Origin) (moment : ℕ) (i : Ingested) → i ≡ only Unknown
    → gate_in (kept_at (key_of o) old.entries) ≡ None → Moves old old i (λ voice s. video_waited voice o moment s)
nothing_waits old o moment i is none = λ voice s right asker knows. (
  is
      ∙ no_answer voice o moment (kept_at (key_of o) old.entries) (story_at o s.known)
      (kept_story o old.entries s.known knows.holds) none,
  record { holds = holds_none o old.entries s.known knows.holds none; epochs = knows.epochs },
)

-- ---- at a gate

wait_at_gate : (base gate : GateOf) (r : PreparedWaitOf) (events : List GateEvent) → PreparesWait base r
    → CommitsWait base r gate → HasGateEvents (Some base) events
    → AnswersWait (watch_of events) (answer_in r) × HasGateEvents (Some gate) (with_wait events)
wait_at_gate base gate r [] prepares commits has = absurd has
wait_at_gate base gate r (e ∷ events) prepares commits has =
    let both = prepares gate commits (watch_of (e ∷ events)) has in (both.0, one_more gate (e ∷ events) wait both.1)

answer_is : (voice : Voice) (o : Origin) (moment epoch same_epoch : ℕ) (w : Watch) (a : Waited) → AnswersWait w a
    → epoch ≡ same_epoch → wait_given voice o moment epoch a ≡ wait_at voice o moment same_epoch w
answer_is voice o moment epoch same_epoch w a answers same =
    let freed_are : freed w ≡ a.frames =
    ap (drop (length (frames_of w.epoch))) answers.frames ∙ drop-front (frames_of w.epoch) a.frames in
    ap (λ ns. ingested Unknown (asked_of voice o ns a.pli) (frames_from o moment epoch a.frames)) answers.nacks
    ∙ ap (λ b. ingested Unknown (asked_of voice o (asked_again w) b) (frames_from o moment epoch a.frames)) answers.pli
    ∙ ap
    (λ n. ingested Unknown (asked_of voice o (asked_again w) (is_some (lost_in w))) (frames_from o moment n a.frames))
    same
    ∙ ap
    (λ fs.
    ingested Unknown (asked_of voice o (asked_again w) (is_some (lost_in w))) (frames_from o moment same_epoch fs))
    (sym freed_are)

module _ (before after : EntryOf) (r : PreparedWaitOf) (waited : HasWaited before.gate r after.gate)
    (prepares : PreparesWait waited.base r) (same : after
    ≡ record { rate = before.rate; source = before.source; epoch = before.epoch; gate = after.gate }) where
  both : (story : Story) → Keeps before story
      → AnswersWait (watch_of story.gate_events) (answer_in r)
      × HasGateEvents (Some waited.gate) (with_wait story.gate_events)
  both story keeps =
      wait_at_gate waited.base waited.gate r story.gate_events prepares waited.commits
      (subst (λ g. HasGateEvents g story.gate_events) waited.before keeps.gate_events)

  keeps_wait : (story : Story) → Keeps before story → Keeps after (waited_on story)
  keeps_wait story keeps = subst (λ (k : EntryOf). Keeps k (waited_on story)) (sym same) (record {
    rate = keeps.rate;
    given = keeps.given;
    epoch = keeps.epoch;
    gate_events = subst (λ g. HasGateEvents g (with_wait story.gate_events)) (sym waited.now) (both story keeps).1;
  })

  story_answers : (voice : Voice) (o : Origin) (moment epoch : ℕ) (story : Option Story) → epoch ≡ before.epoch
      → KeepsAny (Some before) story → wait_given voice o moment epoch (answer_in r) ≡ wait_in voice o moment story
  story_answers voice o moment epoch None is h = absurd h
  story_answers voice o moment epoch (Some story) is h =
      answer_is voice o moment epoch story.epoch (watch_of story.gate_events) (answer_in r) (both story h).0
      (is ∙ h.epoch)

-- a wait that was committed at the source's gate
pub wait_moves : (old new : IngressOf) (o : Origin) (moment : ℕ) (r : PreparedWaitOf) (i : Ingested)
    → ReadiesWait (gate_in (kept_at (key_of o) old.entries)) (Some r) → WaitsAtGate old new o moment r i
    → Moves old new i (λ voice s. video_waited voice o moment s)
wait_moves old new o moment r i ready at = λ voice s right asker knows.
    let w = at.waited in
    let prepares : PreparesWait w.waited.base r =
    (subst (λ g. ReadiesWait g (Some r)) (ap gate_in w.kept ∙ w.waited.before) ready).0 in
    let keeps = subst (λ x. KeepsAny x (story_at o s.known)) w.kept (kept_story o old.entries s.known knows.holds) in (
      at.answers voice right asker
          ∙ story_answers w.before w.after r w.waited prepares w.same voice o moment at.epoch (story_at o s.known)
          w.its_epoch keeps,
      record {
        holds =
            subst (λ es. Holds es (retold o waited_on s.known)) (sym w.entries)
            (holds_retold o waited_on w.before w.after
            old.entries s.known knows.holds w.kept (keeps_wait w.before w.after r w.waited prepares w.same));
        epochs = ap (λ (x : IngressOf). x.epochs) at.others ∙ knows.epochs;
      },
    )
