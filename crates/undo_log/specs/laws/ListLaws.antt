-- Lists of edits are taken back from their end.
use Rattle.std.specs.Prelude.{◌≡◌, Bool, true, false, ◌&&◌, List, [], ◌∷◌, ◌++◌, map, reverse, fold, refl}
use Rattle.std.proofs.Common.{ap, ◌∙◌, arith}
use Rattle.std.proofs.lemmas.Bool.{and_parts, and_from, cond-true, cond-false}
use Rattle.std.proofs.lemmas.List.{reverse-append}
use Rattle.std.proofs.lemmas.List.Sums.{fold_push}
use Rattle.undo_log.specs.Timeline.{all_fit}
use Rattle.undo_log.specs.Lists.{after_all, inverses}

pub reverse_push : {A : Type 0} → (xs : List A) (x : A) → reverse (xs ++ x ∷ []) ≡ x ∷ reverse xs
reverse_push xs x = reverse-append xs (x ∷ [])

pub reverse_front : {A : Type 0} → (x : A) (xs : List A) → reverse (x ∷ xs) ≡ reverse xs ++ x ∷ []
reverse_front x xs = reverse-append (x ∷ []) xs

and_assoc : (a b c : Bool) → (a && (b && c)) ≡ ((a && b) && c)
and_assoc a b c = grind arith

map_append : {A B : Type 0} (f : A → B) (xs ys : List A) → map f (xs ++ ys) ≡ map f xs ++ map f ys
map_append f [] ys = refl
map_append f (x ∷ xs) ys = ap (λ zs. f x ∷ zs) (map_append f xs ys)

pub inverses_twice : {E : Type 0} (inverse : E → E) → ((e : E) → inverse (inverse e) ≡ e) → (es : List E)
    → inverses inverse (inverses inverse es) ≡ es
inverses_twice inverse twice [] = refl
inverses_twice inverse twice (e ∷ es) =
    ap (λ xs. reverse (map inverse xs)) (reverse_front (inverse e) (map inverse es))
    ∙ ap reverse (map_append inverse (reverse (map inverse es)) (inverse e ∷ []))
    ∙ reverse_push (map inverse (reverse (map inverse es))) (inverse (inverse e))
    ∙ (λ i. twice e i ∷ inverses_twice inverse twice es i)

module _ {S E : Type 0} (fits : S → E → Bool) (after : S → E → S) where
  pub all_fit-push : (x : S) (es : List E) (e : E)
      → all_fit fits after x (es ++ e ∷ []) ≡ (all_fit fits after x es && fits (fold after x es) e)
  all_fit-push x [] e = grind arith
  all_fit-push x (d ∷ es) e = rw (all_fit-push (after x d) es e) (and_assoc (fits x d) _ _)

  pub all_absorbed : (x : S) (es : List E) → all_fit fits after x es ≡ true
      → after_all fits after x es ≡ fold after x es
  all_absorbed x es fit = cond-true (all_fit fits after x es) (fold after x es) x fit

  pub all_stay : (x : S) (es : List E) → all_fit fits after x es ≡ false → after_all fits after x es ≡ x
  all_stay x es unfit = cond-false (all_fit fits after x es) (fold after x es) x unfit

  module _ (inverse : E → E)
      (inverse_fits : (x : S) (e : E) → fits x e ≡ true → fits (after x e) (inverse e) ≡ true)
      (undoes : (x : S) (e : E) → fits x e ≡ true → after (after x e) (inverse e) ≡ x) where
    -- taken back from its end, the list leads back
    pub back_all : (x : S) (es : List E) → all_fit fits after x es ≡ true →
        (all_fit fits after (fold after x es) (inverses inverse es) ≡ true)
        × (fold after (fold after x es) (inverses inverse es) ≡ x)
    back_all x [] fit = (refl, refl)
    back_all x (e ∷ es) fit =
        let both = and_parts (fits x e) (all_fit fits after (after x e) es) fit in
        let rest = back_all (after x e) es both.1 in
        let y = fold after (after x e) es in
        let shape : inverses inverse (e ∷ es) ≡ inverses inverse es ++ inverse e ∷ [] =
        reverse_front (inverse e) (map inverse es) in (
          ap (all_fit fits after y) shape ∙ all_fit-push y (inverses inverse es) (inverse e)
              ∙ and_from _ _ rest.0 (ap (λ z. fits z (inverse e)) rest.1 ∙ inverse_fits x e both.0),
          ap (fold after y) shape
              ∙ fold_push after y (inverses inverse es) (inverse e)
              ∙ ap (λ z. after z (inverse e)) rest.1
              ∙ undoes x e both.0,
        )

    pub all_inverses_fit : (x : S) (es : List E) → all_fit fits after x es ≡ true
        → all_fit fits after (after_all fits after x es) (inverses inverse es) ≡ true
    all_inverses_fit x es fit =
        ap (λ y. all_fit fits after y (inverses inverse es)) (all_absorbed x es fit) ∙ (back_all x es fit).0

    pub all_undone : (x : S) (es : List E) → all_fit fits after x es ≡ true
        → after_all fits after (after_all fits after x es) (inverses inverse es) ≡ x
    all_undone x es fit =
        let back = back_all x es fit in
        ap (λ y. after_all fits after y (inverses inverse es)) (all_absorbed x es fit)
        ∙ all_absorbed (fold after x es) (inverses inverse es) back.0 ∙ back.1
