-- Cases are answered by a function that computes the wanted answers.
use Rattle.std.proofs.Common.{◌≡◌, List, [], ◌∷◌, map, ap, ◌∙◌}
use Rattle.worked_desk.specs.Cases.{Answers}

first_is : {B : Type 0} (x y : B) (xs ys : List B) → (x ∷ xs) ≡ (y ∷ ys) → x ≡ y
first_is x y xs ys e = cc

rest_is : {B : Type 0} (x y : B) (xs ys : List B) → (x ∷ xs) ≡ (y ∷ ys) → xs ≡ ys
rest_is x y xs ys e = cc

-- what f answers on a desk, or on what else it is asked of
pub answers : {D A B : Type 0} (f : D → A → B) (d : D) (cases : List (A × B))
    → map (λ c. f d c.0) cases ≡ map (λ c. c.1) cases →
    {desk : D} {asked : A} {answer : B} → desk ≡ d → answer ≡ f desk asked → Answers cases asked answer
answers f d [] computed same is = tt
answers f d (c ∷ cs) computed {desk} {asked} same is = (
  (λ e.
      is
      ∙ ap (λ x. f x asked) same
      ∙ ap (f d) e
      ∙ first_is (f d c.0) c.1 (map (λ x. f d x.0) cs) (map (λ x. x.1) cs) computed),
  answers f d cs (rest_is (f d c.0) c.1 (map (λ x. f d x.0) cs) (map (λ x. x.1) cs) computed) same is,
)
