-- What cores in a row sent.
use Rattle.std.proofs.Common.{◌≡◌, ℕ, List, [], ◌∷◌, ◌++◌, length, refl, sym, ap, subst, ◌∙◌, append-nil, append_assoc}
use Rattle.std.specs.Prelude.{slice_get}
use Rattle.desk_rows.specs.Desk.{Desk}
use Rattle.sender_feedback.specs.Upstream.{Asker}
use Rattle.bridge_core.specs.Sent.{Sent}
use Rattle.bridge_core.specs.LaneState.{LaneOf}
use Rattle.bridge_core.specs.Steps.{Step, along, sent_at, CoreOf, HasTaken}
use Rattle.bridge_core.specs.Named.{Name, firsts_at}
use Rattle.bridge_core.specs.Events.{Listens}
use Rattle.plain_laws.specs.CoreRuns.{GoesThrough}
use Rattle.plain_laws.specs.SentLists.{first_sent}

-- what the receive side does leaves the steps
still_taken : (old new : CoreOf) (start : Desk) (steps : List Step) → Listens old new → HasTaken old start steps
    → HasTaken new start steps
still_taken old new start steps listens taken = record {
  version = listens.version ∙ taken.version;
  desk = listens.desk ∙ taken.desk;
  lanes = λ lane state at.
      taken.lanes lane state (ap (λ (states : List LaneOf). slice_get states lane) (sym listens.lanes) ∙ at);
}

-- from a core that has taken some steps
pub gone_along : (start : Desk) (before steps : List Step) (sent : List (List Sent)) (first last : CoreOf)
    → HasTaken first start before → GoesThrough first steps sent last
    → (sent ≡ along (sent_at first.ingress.asker (length first.lanes) start) before steps)
    × HasTaken last start (before ++ steps) × (length last.lanes ≡ length first.lanes)
gone_along start before [] sent first last taken (nothing, listens) = (
  nothing,
  subst (HasTaken last start) (sym (append-nil before)) (still_taken first last start before listens taken),
  ap length listens.lanes,
)
gone_along start before (step ∷ steps) sent first last taken
    (ready, next, now, later, is, listens, takes, many, name, run) =
    let here = takes start before (still_taken first ready start before listens taken) in
    let after = before ++ step ∷ [] in
    let lanes : length ready.lanes ≡ length first.lanes = ap length listens.lanes in
    let who = first.ingress.asker in
    let rest = gone_along start after steps later next last here.1 run in (
      is ∙ ap (λ s. s ++ later)
          (here.0
          ∙ ap (λ (n : ℕ). sent_at ready.ingress.asker n start before step) lanes
          ∙ ap (λ (w : Asker). sent_at w (length first.lanes) start before step) listens.who)
          ∙ ap (λ s. sent_at who (length first.lanes) start before step ++ s)
          (rest.0
          ∙ ap (λ (n : ℕ). along (sent_at next.ingress.asker n start) after steps) (many ∙ lanes)
          ∙ ap (λ (w : Asker). along (sent_at w (length first.lanes) start) after steps) (name ∙ listens.who)),
      subst (HasTaken last start) (append_assoc before (step ∷ []) steps) rest.1,
      rest.2 ∙ many ∙ lanes,
    )

-- what was sent first of all that is sent by definition
pub firsts_same : (who : Asker) (lanes : ℕ) (start : Desk) (name : Name) (before steps : List Step)
    → first_sent name steps (along (sent_at who lanes start) before steps)
    ≡ along (firsts_at who lanes start name) before steps
firsts_same who lanes start name before [] = refl
firsts_same who lanes start name before (Step.publish next ∷ steps) =
    firsts_same who lanes start name (before ++ Step.publish next ∷ []) steps
firsts_same who lanes start name before (Step.item lane input ∷ steps) =
    ap (λ xs. firsts_at who lanes start name before (Step.item lane input) ++ xs)
    (firsts_same who lanes start name (before ++ Step.item lane input ∷ []) steps)
