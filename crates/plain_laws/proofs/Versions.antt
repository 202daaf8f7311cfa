-- Desks by their versions.
use Rattle.std.proofs.Common.{◌≡◌, ℕ, ◌+◌, zero, suc, Bool, true, false, cond, nat_eq, List, [], ◌∷◌, ◌++◌}
use Rattle.std.proofs.Common.{refl, sym, ap, subst, ◌∙◌, arith, append_assoc}
use Rattle.std.specs.List.{Contains}
use Rattle.desk_rows.specs.Desk.{Desk}
use Rattle.media_items.specs.Inputs.{Input}
use Rattle.bridge_core.specs.Lanes.{Visit}
use Rattle.bridge_core.specs.Steps.{Step, version_of, desk_of, along, visit_after, visit_at}
use Rattle.plain_laws.specs.SentAgain.{desk_of_version}

at_zero : (start : Desk) (steps : List Step) → desk_of_version start steps 0 ≡ start
at_zero start [] = refl
at_zero start (Step.publish next ∷ steps) = refl
at_zero start (Step.item lane input ∷ steps) = refl

at_publish : (start next : Desk) (steps : List Step) (n : ℕ)
    → desk_of_version start (Step.publish next ∷ steps) (1 + n) ≡ desk_of_version next steps n
at_publish start next steps n =
    let one : suc n ≡ 1 + n = omega arith in
    subst (λ (m : ℕ). desk_of_version start (Step.publish next ∷ steps) m ≡ desk_of_version next steps n) one refl

at_item : (start : Desk) (lane : ℕ) (input : Input) (steps : List Step) (n : ℕ)
    → desk_of_version start (Step.item lane input ∷ steps) n ≡ desk_of_version start steps n
at_item start lane input steps zero = sym (at_zero start steps)
at_item start lane input steps (suc n) = refl

-- the desk after some steps is that of their version, whatever comes behind them
pub of_front : (start : Desk) (front rest : List Step)
    → desk_of_version start (front ++ rest) (version_of front) ≡ desk_of start front
of_front start [] rest = at_zero start rest
of_front start (Step.publish next ∷ front) rest =
    at_publish start next (front ++ rest) (version_of front) ∙ of_front next front rest
of_front start (Step.item lane input ∷ front) rest =
    at_item start lane input (front ++ rest) (version_of front) ∙ of_front start front rest

-- where each visit at the later steps has the desk of its version, so has each one from this item on
visits_behind : (lane : ℕ) (start : Desk) (before : List Step) (to : ℕ) (input : Input) (steps : List Step) (v : Visit)
    → (Contains (along (visit_at lane start) (before ++ Step.item to input ∷ []) steps) v
    → desk_of_version start ((before ++ Step.item to input ∷ []) ++ steps) v.version ≡ v.desk)
    → Contains (along (visit_at lane start) (before ++ Step.item to input ∷ []) steps) v
    → desk_of_version start (before ++ Step.item to input ∷ steps) v.version ≡ v.desk
visits_behind lane start before to input steps v later more =
    ap (λ (all : List Step). desk_of_version start all v.version)
    (sym (append_assoc before (Step.item to input ∷ []) steps))
    ∙ later more

visits_from : (lane : ℕ) (start : Desk) (before : List Step) (to : ℕ) (input : Input) (steps : List Step) (v : Visit)
    → (Contains (along (visit_at lane start) (before ++ Step.item to input ∷ []) steps) v
    → desk_of_version start ((before ++ Step.item to input ∷ []) ++ steps) v.version ≡ v.desk)
    → (b : Bool)
    → Contains (cond b (visit_after start before lane input ∷ []) []
    ++ along (visit_at lane start) (before ++ Step.item to input ∷ []) steps) v
    → desk_of_version start (before ++ Step.item to input ∷ steps) v.version ≡ v.desk
visits_from lane start before to input steps v later false more =
    visits_behind lane start before to input steps v later more
visits_from lane start before to input steps v later true (zero, low, is) =
    subst (λ (w : Visit). desk_of_version start (before ++ Step.item to input ∷ steps) w.version ≡ w.desk) is
    (of_front start before (Step.item to input ∷ steps))
visits_from lane start before to input steps v later true (suc k, low, is) =
    visits_behind lane start before to input steps v later (k, omega (arith, low), is)

-- each visit has the desk of its version
pub visits_have : (lane : ℕ) (start : Desk) (before steps : List Step) (v : Visit)
    → Contains (along (visit_at lane start) before steps) v
    → desk_of_version start (before ++ steps) v.version ≡ v.desk
visits_have lane start before [] v (k, low, is) = absurd (omega (arith, low))
visits_have lane start before (Step.publish next ∷ steps) v there =
    ap (λ (all : List Step). desk_of_version start all v.version)
    (sym (append_assoc before (Step.publish next ∷ []) steps))
    ∙ visits_have lane start (before ++ Step.publish next ∷ []) steps v there
visits_have lane start before (Step.item to input ∷ steps) v there =
    visits_from lane start before to input steps v
    (visits_have lane start (before ++ Step.item to input ∷ []) steps v) (nat_eq to lane) there
