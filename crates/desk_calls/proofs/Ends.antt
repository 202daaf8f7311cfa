-- The last element of a list.
use Rattle.std.proofs.Common.{◌≡◌, List, [], ◌∷◌, ◌++◌, refl, ap}
use Rattle.desk_edit.specs.Calls.{front, final}

pub front_push : {X : Type 0} (xs : List X) (x : X) → front (xs ++ x ∷ []) ≡ xs
front_push [] x = refl
front_push (y ∷ []) x = refl
front_push (y ∷ z ∷ xs) x = ap (λ ys. y ∷ ys) (front_push (z ∷ xs) x)

pub final_push : {X : Type 0} (xs : List X) (x : X) → final (xs ++ x ∷ []) ≡ x ∷ []
final_push [] x = refl
final_push (y ∷ []) x = refl
final_push (y ∷ z ∷ xs) x = final_push (z ∷ xs) x
