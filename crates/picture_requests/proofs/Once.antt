-- Items that are collected, each once.
use Rattle.std.proofs.Common.{◌≡◌, ℕ, suc, ◌+◌, ◌≤◌, Bool, true, false, cond, ◌||◌, not, List, [], ◌∷◌, ◌++◌, length}
use Rattle.std.proofs.Common.{refl, sym, ap, ◌∙◌, arith}
use Rattle.std.specs.Prelude.{filter, count_by}
use Rattle.std.specs.List.{list_any}
use Rattle.std.specs.Cmp.{IsEquivalence}
use Rattle.std.proofs.lemmas.List.Folds.{list_any-append}
use Rattle.std.proofs.lemmas.List.Sums.{sum_by-append, sum_by-cons}
use Rattle.std.proofs.lemmas.Map.Steps.{list_any_congr}
use Rattle.indexmap.specs.IndexSet.{insert_key, insert_all}
use Rattle.picture_requests.specs.declared.source.VideoSource.{VideoSource}
use Rattle.picture_requests.specs.declared.choosing.SlotChoice.{SlotChoice}
use Rattle.picture_requests.specs.Sources.{same_source, is_among, each_once}
use Rattle.picture_requests.specs.Choices.{same_choice}
use Rattle.picture_requests.proofs.Same.{sources_equivalence, choices_equivalence}

or_false : (b : Bool) → (b || false) ≡ b
or_false true = refl
or_false false = refl

or_assoc : (a b c : Bool) → ((a || b) || c) ≡ (a || (b || c))
or_assoc true b c = refl
or_assoc false b c = refl

absorbed : (a b : Bool) → (b ≡ true → a ≡ true) → a ≡ (a || b)
absorbed true b h = refl
absorbed false true h = h refl
absorbed false false h = refl

module _ {X : Type 0} (eq : X → X → Bool) (laws : IsEquivalence eq) where
  -- with one more
  pub has_inserted : (x k : X) (ks : List X) → list_any (eq x) (insert_key eq ks k) ≡ (list_any (eq x) ks || eq x k)
  has_inserted x k ks = by (list_any (eq k) ks) refl
    where
      by : (b : Bool) → list_any (eq k) ks ≡ b
          → list_any (eq x) (cond b ks (ks ++ k ∷ [])) ≡ (list_any (eq x) ks || eq x k)
      by true e = absorbed (list_any (eq x) ks) (eq x k) (λ same. list_any_congr laws x k ks same ∙ e)
      by false e = list_any-append (eq x) ks (k ∷ []) ∙ ap (λ b. list_any (eq x) ks || b) (or_false (eq x k))

  pub has_all : (x : X) (xs ks : List X)
      → list_any (eq x) (insert_all eq ks xs) ≡ (list_any (eq x) ks || list_any (eq x) xs)
  has_all x [] ks = sym (or_false (list_any (eq x) ks))
  has_all x (k ∷ xs) ks =
      has_all x xs (insert_key eq ks k)
      ∙ ap (λ b. b || list_any (eq x) xs) (has_inserted x k ks)
      ∙ or_assoc (list_any (eq x) ks) (eq x k) (list_any (eq x) xs)

-- a source is among these where it is among them, each once
pub has_source : (s : VideoSource) (xs : List VideoSource) → is_among (each_once xs) s ≡ is_among xs s
has_source s xs = has_all same_source sources_equivalence s xs []

pub has_choice : (c : SlotChoice) (xs : List SlotChoice)
    → list_any (same_choice c) (insert_all same_choice [] xs) ≡ list_any (same_choice c) xs
has_choice c xs = has_all same_choice choices_equivalence c xs []

-- without a source that is among these there are fewer
pub fewer : (s : VideoSource) (xs : List VideoSource) → is_among xs s ≡ true
    → length (filter (λ x. not (same_source x s)) xs) + 1 ≤ length xs
fewer s [] h = absurd (cc)
fewer s (x ∷ xs) h = by (same_source s x) refl h (fewer s xs)
  where
    fewer_or : (ys : List VideoSource) → length (filter (λ x. not (same_source x s)) ys) ≤ length ys
    fewer_or [] = omega arith
    fewer_or (y ∷ ys) = more (same_source y s) (fewer_or ys)
      where
        more : (b : Bool) → length (filter (λ x. not (same_source x s)) ys) ≤ length ys
            → length
            (cond (not b) (y ∷ filter (λ x. not (same_source x s)) ys) (filter (λ x. not (same_source x s)) ys))
            ≤ suc (length ys)
        more true k = omega (arith, k)
        more false k = omega (arith, k)

    one : (b : Bool) → b ≡ true
        → length (cond (not b) (x ∷ filter (λ x. not (same_source x s)) xs) (filter (λ x. not (same_source x s)) xs))
        + 1
        ≤ suc (length xs)
    one true e = omega (arith, fewer_or xs)
    one false e = absurd (cc)

    other : (b : Bool) → length (filter (λ x. not (same_source x s)) xs) + 1 ≤ length xs
        → length (cond (not b) (x ∷ filter (λ x. not (same_source x s)) xs) (filter (λ x. not (same_source x s)) xs))
        + 1
        ≤ suc (length xs)
    other true k = omega (arith, k)
    other false k = omega (arith, k)

    by : (b : Bool) → same_source s x ≡ b → (b || is_among xs s) ≡ true
        → (is_among xs s ≡ true → length (filter (λ x. not (same_source x s)) xs) + 1 ≤ length xs)
        → length (filter (λ x. not (same_source x s)) (x ∷ xs)) + 1 ≤ length (x ∷ xs)
    by true e h rest = one (same_source x s) (sources_equivalence.symm x s ∙ e)
    by false e h rest = other (same_source x s) (rest h)

-- ---- each once

-- one for an element that passes, and then the others
abbrev tally : VideoSource → VideoSource → ℕ
tally s k = cond (same_source s k) 1 0

count_more : (s k : VideoSource) (ks : List VideoSource)
    → count_by (same_source s) (ks ++ k ∷ []) ≡ count_by (same_source s) ks + cond (same_source s k) 1 0
count_more s k ks = omega (arith, sum_by-append (tally s) ks (k ∷ []), sum_by-cons (tally s) k [])

none_there : (s : VideoSource) (ks : List VideoSource) → is_among ks s ≡ false → count_by (same_source s) ks ≡ 0
none_there s [] h = refl
none_there s (x ∷ ks) h = sum_by-cons (tally s) x ks ∙ by (same_source s x) h (none_there s ks)
  where
    by : (b : Bool) → (b || is_among ks s) ≡ false → (is_among ks s ≡ false → count_by (same_source s) ks ≡ 0)
        → cond b 1 0 + count_by (same_source s) ks ≡ 0
    by true h rest = absurd (cc)
    by false h rest = omega (arith, rest h)

one_with : (s k : VideoSource) (ks : List VideoSource) → count_by (same_source s) ks ≤ 1
    → count_by (same_source s) (insert_key same_source ks k) ≤ 1
one_with s k ks h = by (is_among ks k) refl
  where
    new : is_among ks k ≡ false → (b : Bool) → same_source s k ≡ b → count_by (same_source s) ks + cond b 1 0 ≤ 1
    new e true f = omega (arith, none_there s ks (list_any_congr sources_equivalence s k ks f ∙ e))
    new e false f = omega (arith, h)

    by : (b : Bool) → is_among ks k ≡ b → count_by (same_source s) (cond b ks (ks ++ k ∷ [])) ≤ 1
    by true e = h
    by false e = omega (arith, count_more s k ks, new e (same_source s k) refl)

one_in : (s : VideoSource) (xs ks : List VideoSource) → count_by (same_source s) ks ≤ 1
    → count_by (same_source s) (insert_all same_source ks xs) ≤ 1
one_in s [] ks h = h
one_in s (x ∷ xs) ks h = one_in s xs (insert_key same_source ks x) (one_with s x ks h)

pub stands_once : (s : VideoSource) (xs : List VideoSource) → count_by (same_source s) (each_once xs) ≤ 1
stands_once s xs = one_in s xs [] (omega arith)
