-- Entries whose numbers rise: found by halving, and one more or one less.
use Rattle.std.specs.Prelude.{◌∷◌, ◌++◌, ◌||◌, ◌&&◌, ◌<◌, ◌+◌}
use Rattle.std.proofs.Common.{◌≡◌, ℕ, zero, suc, Bool, true, false, List, [], reverse, length, get_or, nat_eq, nat_lt}
use Rattle.std.proofs.Common.{nat_le, refl, sym, ap, ◌∙◌, arith, append_assoc, inl, inr}
use Rattle.std.specs.List.{list_any, list_all}
use Rattle.std.specs.List.Sorted.{IsNonDecreasingBy}
use Rattle.std.proofs.lemmas.Bool.{and_parts, and_from, cases_lt, cases_Bool}
use Rattle.std.proofs.lemmas.Bool.Decides.{nat_tests}
use Rattle.std.proofs.lemmas.List.{reverse-append}
use Rattle.std.proofs.lemmas.List.Folds.{list_all-append}
use Rattle.desk_rows.specs.laws.ListLaws.{none_there, ahead_may}
use Rattle.desk_rows.specs.inner.tables.Grouped.{stand_by}
use Rattle.desk_rows.specs.inner.tables.Parting.{Parts}
use Rattle.desk_edit.specs.InForce.{Entry, falls, numbers_rise}
use Rattle.desk_edit.specs.Calls.{front, final}
use Rattle.desk_edit.specs.Reverts.{is_made}
use Rattle.desk_revert.specs.Sound.{AreNumbered}

-- ---- in order

abbrev rises : Entry → Entry → Bool
rises a b = nat_lt a.number b.number

falls_push : (ys : List Entry) (x : Entry) → falls (ys ++ x ∷ []) ≡ true →
    (falls ys ≡ true) × (list_all (rises x) ys ≡ true)
falls_push [] x h = (refl, refl)
falls_push (y ∷ ys) x h =
    let both = and_parts (list_all (λ z. nat_lt z.number y.number) (ys ++ x ∷ [])) (falls (ys ++ x ∷ [])) h in
    let parts =
    and_parts (list_all (λ z. nat_lt z.number y.number) ys) (list_all (λ z. nat_lt z.number y.number) (x ∷ []))
    (sym (list_all-append (λ z. nat_lt z.number y.number) ys (x ∷ [])) ∙ both.0) in
    let rest = falls_push ys x both.1 in (
      and_from _ _ parts.0 rest.0,
      and_from _ _ (and_parts (nat_lt x.number y.number) true parts.1).0 rest.1,
    )

all_turned : (p : Entry → Bool) (xs : List Entry) → list_all p (reverse xs) ≡ true → list_all p xs ≡ true
all_turned p [] h = refl
all_turned p (x ∷ xs) h =
    let both =
    and_parts (list_all p (reverse xs)) (list_all p (x ∷ []))
    (sym (list_all-append p (reverse xs) (x ∷ [])) ∙ ap (list_all p) (sym (reverse-append (x ∷ []) xs)) ∙ h) in
    and_from _ _ (and_parts (p x) true both.1).0 (all_turned p xs both.0)

stand_up : (xs : List Entry) → numbers_rise xs ≡ true → stand_by rises xs ≡ true
stand_up [] h = refl
stand_up (x ∷ xs) h =
    let both = falls_push (reverse xs) x (ap falls (sym (reverse-append (x ∷ []) xs)) ∙ h) in
    and_from _ _ (all_turned (rises x) xs both.1) (stand_up xs both.0)

pub no_fall : (xs : List Entry) → numbers_rise xs ≡ true → IsNonDecreasingBy (λ (e : Entry). e.number) xs
no_fall xs h i j d le lt = elim (ahead_may rises xs (stand_up xs h) i j d le lt) [
  | inl e ↦ omega (arith, ap (λ k. (get_or xs k d).number) e)
  | inr e ↦ grind (arith, nat_tests, e)
]

-- ---- by halving

any_at : {X : Type 0} (p : X → Bool) (xs : List X) (i : ℕ) (d : X) → i < length xs → p (get_or xs i d) ≡ true
    → list_any p xs ≡ true
any_at p [] i d l h = absurd (omega (arith, l))
any_at p (x ∷ xs) zero d l h = grind (arith, h)
any_at p (x ∷ xs) (suc i) d l h = grind (arith, h, any_at p xs i d (omega (arith, l)))

pub made_here : (n : ℕ) (xs : List Entry) (i : ℕ) (d : Entry) → i < length xs
    → nat_eq (get_or xs i d).number n ≡ true → is_made n xs ≡ true
made_here n xs i d l h = any_at (λ e. nat_eq n e.number) xs i d l (grind (arith, nat_tests, h))

pub made_none : (n : ℕ) (xs : List Entry) (i : ℕ) (d : Entry) → numbers_rise xs ≡ true
    → Parts (λ (e : Entry). nat_lt e.number n) xs i
    → (i < length xs → nat_eq (get_or xs i d).number n ≡ false) → is_made n xs ≡ false
made_none n xs i d rise parts other =
    none_there (λ e. nat_eq n e.number) xs d (λ k l. elim (cases_lt k i) [
      | inl h ↦ grind (arith, nat_tests, parts.0 k d (omega arith) h)
      | inr h ↦
          let within : i < length xs = omega (arith, h, l) in
          grind (
            arith,
            nat_tests,
            no_fall xs rise i k d h l,
            parts.1 i d (omega arith) within,
            other within,
          )
    ])

-- the element at the place tells
pub made_at : (n : ℕ) (xs : List Entry) (i : ℕ) (d : Entry) → numbers_rise xs ≡ true
    → Parts (λ (e : Entry). nat_lt e.number n) xs i → i < length xs → (b : Bool)
    → b ≡ nat_eq (get_or xs i d).number n → b ≡ is_made n xs
made_at n xs i d rise parts l b is = elim (cases_Bool (nat_eq (get_or xs i d).number n)) [
  | inl e ↦ is ∙ e ∙ sym (made_here n xs i d l e)
  | inr e ↦ is ∙ e ∙ sym (made_none n xs i d rise parts (λ within. e))
]

-- ---- one more, and one less

pub falls_behind : (xs ys : List Entry) → falls (xs ++ ys) ≡ true → falls ys ≡ true
falls_behind [] ys h = h
falls_behind (x ∷ xs) ys h =
    falls_behind xs ys (and_parts (list_all (λ z. nat_lt z.number x.number) (xs ++ ys)) (falls (xs ++ ys)) h).1

pub all_behind : (p : Entry → Bool) (xs ys : List Entry) → list_all p (xs ++ ys) ≡ true → list_all p ys ≡ true
all_behind p xs ys h = (and_parts (list_all p xs) (list_all p ys) (sym (list_all-append p xs ys) ∙ h)).1

pub raised : (v : ℕ) (es : List Entry) → list_all (λ e. nat_le e.number v) es ≡ true
    → list_all (λ e. nat_le e.number (v + 1)) es ≡ true
raised v [] h = refl
raised v (e ∷ es) h =
    let both = and_parts (nat_le e.number v) (list_all (λ x. nat_le x.number v) es) h in
    and_from _ _ (grind (arith, nat_tests, both.0)) (raised v es both.1)

pub above : (v n : ℕ) (es : List Entry) → n ≡ v + 1 → list_all (λ e. nat_le e.number v) es ≡ true
    → list_all (λ e. nat_lt e.number n) es ≡ true
above v n [] is h = refl
above v n (e ∷ es) is h =
    let both = and_parts (nat_le e.number v) (list_all (λ x. nat_le x.number v) es) h in
    and_from _ _ (grind (arith, nat_tests, both.0, is)) (above v n es is both.1)

-- a list is its front and its final element
pub parted : {X : Type 0} (xs : List X) → front xs ++ final xs ≡ xs
parted [] = refl
parted (x ∷ []) = refl
parted (x ∷ y ∷ ys) = ap (λ zs. x ∷ zs) (parted (y ∷ ys))

pub final_turned : {X : Type 0} (xs : List X) → reverse (final xs) ≡ final xs
final_turned [] = refl
final_turned (x ∷ []) = refl
final_turned (x ∷ y ∷ ys) = final_turned (y ∷ ys)

-- the newest first, the entries stay the same in an undo
pub same_undone : (done undone : List Entry)
    → (undone ++ final done) ++ reverse (front done) ≡ undone ++ reverse done
same_undone done undone =
    append_assoc undone (final done) (reverse (front done))
    ∙ ap (λ xs. undone ++ xs)
    (ap (λ xs. xs ++ reverse (front done)) (sym (final_turned done))
    ∙ sym (reverse-append (front done) (final done))
    ∙ ap reverse (parted done))

-- and in a redo
pub same_redone : (done undone : List Entry)
    → front undone ++ reverse (done ++ final undone) ≡ undone ++ reverse done
same_redone done undone =
    ap (λ xs. front undone ++ xs)
    (reverse-append done (final undone) ∙ ap (λ xs. xs ++ reverse done) (final_turned undone))
    ∙ sym (append_assoc (front undone) (final undone) (reverse done))
    ∙ ap (λ xs. xs ++ reverse done) (parted undone)

-- ---- the numbers of a history's entries

pub numbered_more : (v : ℕ) (calls undone : List Entry) (e : Entry) → e.number ≡ v + 1
    → AreNumbered v (undone ++ reverse calls) → AreNumbered (v + 1) (reverse (calls ++ e ∷ []))
numbered_more v calls undone e number h =
    let both =
    and_parts (list_all (λ x. nat_le x.number v) (undone ++ reverse calls)) (falls (undone ++ reverse calls)) h in
    let few = all_behind (λ x. nat_le x.number v) undone (reverse calls) both.0 in
    let turned : reverse (calls ++ e ∷ []) ≡ e ∷ reverse calls = reverse-append calls (e ∷ []) in
    ap (λ es. list_all (λ x. nat_le x.number (v + 1)) es && falls es) turned
    ∙ and_from _ _ (and_from _ _ (grind (arith, nat_tests, number)) (raised v (reverse calls) few))
    (and_from _ _ (above v e.number (reverse calls) number few) (falls_behind undone (reverse calls) both.1))

pub numbered_still : (v : ℕ) (es : List Entry) → AreNumbered v es → AreNumbered (v + 1) es
numbered_still v es h =
    let both = and_parts (list_all (λ x. nat_le x.number v) es) (falls es) h in
    and_from _ _ (raised v es both.0) both.1

pub rise_of : (v : ℕ) (undone done : List Entry) → AreNumbered v (undone ++ reverse done) → numbers_rise done ≡ true
rise_of v undone done h =
    falls_behind undone (reverse done)
    (and_parts (list_all (λ x. nat_le x.number v) (undone ++ reverse done)) (falls (undone ++ reverse done)) h).1
