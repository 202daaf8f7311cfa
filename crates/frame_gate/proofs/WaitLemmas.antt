-- The answer to a wait.
use Rattle.std.proofs.Common.{◌≡◌, ◌&&◌, not, ℕ, ◌++◌, ◌∷◌, List, Option, None, Some, map, take, sym, ap, ◌∙◌, subst}
use Rattle.std.proofs.Common.{append-nil, length}
use Rattle.std.specs.Prelude.{filter, is_some, unwrap_or}
use Rattle.frame_gate.specs.Packets.{ext_of}
use Rattle.frame_gate.specs.Frame.{WholeFrame}
use Rattle.frame_gate.specs.Epochs.{greatest, frames_of}
use Rattle.frame_gate.specs.GivenUp.{missing_in}
use Rattle.frame_gate.specs.Admits.{IsAt, PreparesMaybe}
use Rattle.frame_gate.specs.Watched.{Watch, waited, giving_up, lost_in, is_asked, is_lost, limit_of, most_waits}
use Rattle.frame_gate.specs.Watched.{AnswersWait, one_more_if}
use Rattle.frame_gate.specs.Waits.{WatchedOf, PreparedWaitOf, Watches, CommitsWait, answer_in, so_many}
use Rattle.frame_gate.proofs.Answered.{top-greatest}
use Rattle.frame_gate.proofs.CountLemmas.{frames_more, gaps_more}
use Rattle.frame_gate.proofs.Missed.{last_missing}

pub answered : (k new : WatchedOf) (r : PreparedWaitOf) (w : Watch) (lost : Option ℕ) → Watches k w → lost ≡ lost_in w
    → PreparesMaybe k.gate lost r.cuts
    → r.nacks ≡ map ext_of (filter (is_asked w.marks) (missing_in w.epoch)) → CommitsWait k r new
    → AnswersWait w (answer_in r) × Watches new (waited w)
answered k new r w lost h is cuts nacks commits = by lost is cuts
  where
    most : unwrap_or k.gate.greatest 0 ≡ greatest w.epoch.taken
    most = ap (λ o. unwrap_or o 0) h.gate.greatest ∙ top-greatest w.epoch.taken

    marks : new.marks ≡ take most_waits (greatest w.epoch.taken ∷ w.marks)
    marks = commits.marks ∙ (λ i. take most_waits (most i ∷ h.marks i))

    answers : r.cuts.answer.pli ≡ is_some (lost_in w) → new.answers ≡ (w.answers && not (is_some (lost_in w)))
    answers pli = commits.answers ∙ (λ i. h.answers i && not (pli i))

    count : AnswersWait w (answer_in r) → new.frames ≡ so_many (length (frames_of (waited w).epoch))
    count a = frames_more _ _ _ _ _ h.frames commits.frames a.frames

    gaps : AnswersWait w (answer_in r) → new.gaps ≡ so_many (one_more_if (is_some (lost_in w)) w.gaps)
    gaps a = gaps_more _ _ _ _ _ h.gaps commits.gaps a.pli

    watches : AnswersWait w (answer_in r) → IsAt new.gate (waited w).epoch → Watches new (waited w)
    watches a at = record { gate = at; marks = marks; answers = answers a.pli; frames = count a; gaps = gaps a }

    by : (lost : Option ℕ) → lost ≡ lost_in w → PreparesMaybe k.gate lost r.cuts
        → AnswersWait w (answer_in r) × Watches new (waited w)
    by None is cuts =
        let x = cuts new.gate commits.gate w.epoch h.gate in
        let same : giving_up w.epoch (lost_in w) ≡ w.epoch = ap (giving_up w.epoch) (sym is) in
        let a : AnswersWait w (answer_in r) = record {
          frames =
              ap frames_of same
              ∙ sym (append-nil (frames_of w.epoch))
              ∙ ap (λ (fs : List WholeFrame). frames_of w.epoch ++ fs) (sym x.0);
          nacks = nacks;
          pli = x.1 ∙ ap is_some is;
        } in
        (a, watches a (subst (IsAt new.gate) (sym same) x.2))
    by (Some n) is cuts =
        let x = cuts new.gate commits.gate w.epoch h.gate in
        let same = ap (giving_up w.epoch) (sym is) in
        let a : AnswersWait w (answer_in r) = record {
          frames = ap frames_of same ∙ x.0.frames;
          nacks = nacks;
          pli =
              x.0.pli
              ∙ last_missing w.epoch (is_lost (limit_of w.answers) w.marks) n (sym is)
              ∙ ap is_some is;
        } in
        (a, watches a (subst (IsAt new.gate) (sym same) x.1))
