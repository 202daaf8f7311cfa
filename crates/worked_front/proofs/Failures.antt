-- How many attempts failed.
use Rattle.std.proofs.Common.{◌≡◌, ℕ, suc, Bool, true, false, not, List, [], ◌∷◌, map, filter, length, cond, refl, ap}
use Rattle.std.proofs.Common.{◌∙◌}
use Rattle.udp_wire.specs.Attempts.{Attempt, failures}

one_more : {X Y : Type 0} (b : Bool) (x : X) (xs : List X) (y : Y) (ys : List Y) → length xs ≡ length ys
    → length (cond b (x ∷ xs) xs) ≡ length (cond b (y ∷ ys) ys)
one_more true x xs y ys e = ap suc e
one_more false x xs y ys e = e

-- as many as attempts that were not sent
failures_are : (tried : List Attempt) → failures tried ≡ length (filter not (map (λ attempt. attempt.sent) tried))
failures_are [] = refl
failures_are (attempt ∷ tried) =
    one_more (not attempt.sent) attempt (filter (λ a. not a.sent) tried) attempt.sent
    (filter not (map (λ a. a.sent) tried)) (failures_are tried)

pub failures_of : (tried : List Attempt) (sent : List Bool) → map (λ attempt. attempt.sent) tried ≡ sent
    → failures tried ≡ length (filter not sent)
failures_of tried sent e = failures_are tried ∙ ap (λ (l : List Bool). length (filter not l)) e
