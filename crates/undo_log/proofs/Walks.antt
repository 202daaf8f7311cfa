-- Lists of edits, walked from the front and from the end.
use Rattle.std.proofs.Common.{◌≡◌, ℕ, zero, suc, ◌+◌, ◌<◌, Bool, true, false, List, [], ◌∷◌, ◌++◌, take, fold, length}
use Rattle.std.proofs.Common.{ap, ◌∙◌, sym, get_or, arith}
use Rattle.std.proofs.lemmas.Bool.{and_from, and_left, and_right, and_parts}
use Rattle.std.proofs.lemmas.List.{take_more}
use Rattle.std.proofs.lemmas.List.Sums.{fold_push}
use Rattle.undo_log.specs.Timeline.{all_fit}
use Rattle.undo_log.specs.Lists.{after_all, inverses}
use Rattle.undo_log.specs.laws.ListLaws.{all_fit-push, all_absorbed, back_all}

module _ {S E : Type 0} (fits : S → E → Bool) (after : S → E → S) where
  -- one more of the list fits, and leads on
  pub step_fits : (x : S) (es : List E) (i : ℕ) (e : E) → i < length es → get_or es i e ≡ e
      → all_fit fits after x (take i es) ≡ true → fits (fold after x (take i es)) e ≡ true
      → all_fit fits after x (take (i + 1) es) ≡ true
  step_fits x es i e inside is so_far fit =
      ap (all_fit fits after x) (take_more es i e inside ∙ ap (λ y. take i es ++ y ∷ []) is)
      ∙ all_fit-push fits after x (take i es) e
      ∙ and_from _ _ so_far fit

  pub step_leads : (x : S) (es : List E) (i : ℕ) (e : E) → i < length es → get_or es i e ≡ e
      → fold after x (take (i + 1) es) ≡ after (fold after x (take i es)) e
  step_leads x es i e inside is =
      ap (fold after x) (take_more es i e inside ∙ ap (λ y. take i es ++ y ∷ []) is) ∙ fold_push after x (take i es) e

  -- where one doesn't fit, the list doesn't
  pub stops : (x : S) (es : List E) (i : ℕ) (e : E) → i < length es → get_or es i e ≡ e
      → fits (fold after x (take i es)) e ≡ false → all_fit fits after x es ≡ false
  stops x [] i e inside is unfit = absurd (omega arith)
  stops x (d ∷ es) zero e inside is unfit =
      and_left (fits x d) (all_fit fits after (after x d) es) (ap (fits x) is ∙ unfit)
  stops x (d ∷ es) (suc i) e inside is unfit =
      and_right (fits x d) (all_fit fits after (after x d) es) (stops (after x d) es i e (omega arith) is unfit)

  -- each of a list that fits, fits the state that those before it leave
  pub fits_within : (x : S) (es : List E) (i : ℕ) (e : E) → i < length es → get_or es i e ≡ e
      → all_fit fits after x es ≡ true → fits (fold after x (take i es)) e ≡ true
  fits_within x [] i e inside is fit = absurd (omega arith)
  fits_within x (d ∷ es) zero e inside is fit =
      ap (fits x) (sym is) ∙ (and_parts (fits x d) (all_fit fits after (after x d) es) fit).0
  fits_within x (d ∷ es) (suc i) e inside is fit =
      fits_within (after x d) es i e (omega arith) is
      (and_parts (fits x d) (all_fit fits after (after x d) es) fit).1

  module _ (inverse : E → E)
      (inverse_fits : (x : S) (e : E) → fits x e ≡ true → fits (after x e) (inverse e) ≡ true)
      (undoes : (x : S) (e : E) → fits x e ≡ true → after (after x e) (inverse e) ≡ x) where
    -- from where a list led, its inverses fit, and lead back
    pub backs_fit : (x y : S) (es : List E) → all_fit fits after x es ≡ true → y ≡ fold after x es
        → all_fit fits after y (inverses inverse es) ≡ true
    backs_fit x y es fit at =
        ap (λ z. all_fit fits after z (inverses inverse es)) at
        ∙ (back_all fits after inverse inverse_fits undoes x es fit).0

    pub back_to : (x y : S) (es : List E) → all_fit fits after x es ≡ true → y ≡ fold after x es
        → after_all fits after y (inverses inverse es) ≡ x
    back_to x y es fit at =
        ap (λ z. after_all fits after z (inverses inverse es)) at
        ∙ all_absorbed fits after (fold after x es) (inverses inverse es)
        (back_all fits after inverse inverse_fits undoes x es fit).0
        ∙ (back_all fits after inverse inverse_fits undoes x es fit).1

    -- one of a list that led here, taken back from the place behind it: it fits, and leads to the place before it
    pub back_one : (x y : S) (es : List E) (i : ℕ) (e : E) → i < length es → get_or es i e ≡ e
        → all_fit fits after x es ≡ true → y ≡ fold after x (take (i + 1) es)
        → (fits y (inverse e) ≡ true) × (after y (inverse e) ≡ fold after x (take i es))
    back_one x y es i e inside is fit at =
        let fit_here = fits_within x es i e inside is fit in
        let here : y ≡ after (fold after x (take i es)) e = at ∙ step_leads x es i e inside is in (
          ap (λ z. fits z (inverse e)) here ∙ inverse_fits (fold after x (take i es)) e fit_here,
          ap (λ z. after z (inverse e)) here ∙ undoes (fold after x (take i es)) e fit_here,
        )
