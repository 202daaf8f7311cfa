-- All that is sent over steps in a row.
use Rattle.std.proofs.Common.{◌≡◌, List, [], ◌∷◌, ◌++◌, length, sym, ap, subst, ◌∙◌, append-nil, append_assoc}
use Rattle.desk_rows.specs.Desk.{Desk}
use Rattle.bridge_core.specs.Sent.{Sent}
use Rattle.bridge_core.specs.Steps.{Step, along, sent_at, CoreOf, HasTaken}
use Rattle.bridge_core.specs.Runs.{Runs}

-- from a core that has taken some steps
pub sent_along : (start : Desk) (before steps : List Step) (sent : List (List Sent)) (first last : CoreOf)
    → HasTaken first start before → Runs first steps sent last
    → (sent ≡ along (sent_at first.ingress.asker (length first.lanes) start) before steps)
    × HasTaken last start (before ++ steps)
sent_along start before [] sent first last taken run = (
  run.0,
  subst (HasTaken last start) (sym (append-nil before))
      (subst (λ (core : CoreOf). HasTaken core start before) (sym run.1) taken),
)
sent_along start before (step ∷ steps) sent first last taken run =
    let here = run.4 start before taken in
    let after = before ++ step ∷ [] in
    let rest = sent_along start after steps run.2 run.0 last here.1 run.7 in (
      run.3
          ∙ ap (λ s. s ++ run.2) here.0
          ∙ ap (λ s. sent_at first.ingress.asker (length first.lanes) start before step ++ s)
          (rest.0
          ∙ ap (λ n. along (sent_at (run.0).ingress.asker n start) after steps) run.5
          ∙ ap (λ who. along (sent_at who (length first.lanes) start) after steps) run.6),
      subst (HasTaken last start) (append_assoc before (step ∷ []) steps) rest.1,
    )
