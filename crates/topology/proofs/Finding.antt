-- Elements found by their keys and by tests.
use Rattle.std.proofs.Common.{◌≡◌, ℕ, ◌+◌, ◌<◌, ◌≤◌, Bool, true, false, cond, nat_eq, zero, suc, List, [], ◌∷◌}
use Rattle.std.proofs.Common.{Option, None, Some, refl, sym, ap, subst, ◌∙◌, arith, eqb-true}
use Rattle.std.specs.Prelude.{filter, option_map}
use Rattle.std.specs.List.{find, flat_map, range_with_len, AllByRecursion}
use Rattle.std.proofs.lemmas.Bool.Decides.{nat_tests}
use Rattle.topology.specs.Looking.{is_this}
use Rattle.topology.proofs.Distinct.{at, Distinct, from_past}

-- of which it is given
pub given_by : {X Y : Type 0} (f : X → Y) (o : Option X) (y : Y) → option_map f o ≡ Some y
    → (x : X) × (o ≡ Some x) × (f x ≡ y)
given_by f None y h = absurd (cc)
given_by f (Some x) y h = (x, refl, cc)

-- what is found has the key
pub found_key : {X : Type 0} (key : X → ℕ) (k : ℕ) (x : X) (xs : List X) → at key k xs ≡ Some x → key x ≡ k
found_key key k x [] h = absurd (cc)
found_key key k x (y ∷ ys) h = by (nat_eq (key y) k) refl h (found_key key k x ys)
  where
    by : (b : Bool) → nat_eq (key y) k ≡ b → cond b (Some y) (at key k ys) ≡ Some x → (at key k ys ≡ Some x → key x ≡ k)
        → key x ≡ k
    by true e h later = (let same : y ≡ x = cc in sym (ap key same) ∙ eqb-true (key y) k e)
    by false e h later = later h

-- what is found passes the test, and has what all have
pub of_found : {X : Type 0} (P : X → Type 0) (p : X → Bool) (x : X) (xs : List X) → AllByRecursion P xs
    → find p xs ≡ Some x → P x × (p x ≡ true)
of_found P p x [] all h = absurd (cc)
of_found P p x (y ∷ ys) all h = by (p y) refl h (of_found P p x ys all.1)
  where
    by : (b : Bool) → p y ≡ b → cond b (Some y) (find p ys) ≡ Some x → (find p ys ≡ Some x → P x × (p x ≡ true))
        → P x × (p x ≡ true)
    by true e h later = (let same : y ≡ x = cc in (subst P same all.0, sym (ap p same) ∙ e))
    by false e h later = later h

-- a number that is this one is there
pub it_is : (n : ℕ) (o : Option ℕ) → is_this n o ≡ true → o ≡ Some n
it_is n None h = absurd (cc)
it_is n (Some m) h = ap Some (eqb-true m n h)

-- a number of a range
pub in_range : (k a n : ℕ) → a ≤ k → k < a + n → at (λ (i : ℕ). i) k (range_with_len a n) ≡ Some k
in_range k a zero low high = absurd (omega arith)
in_range k a (suc n) low high = by (nat_eq a k) refl (λ lower. in_range k (a + 1) n lower (omega arith))
  where
    by : (b : Bool) → nat_eq a k ≡ b → (a + 1 ≤ k → at (λ (i : ℕ). i) k (range_with_len (a + 1) n) ≡ Some k)
        → cond b (Some a) (at (λ (i : ℕ). i) k (range_with_len (a + 1) n)) ≡ Some k
    by true e later = ap Some (eqb-true a k e)
    by false e later = later (grind (arith, nat_tests))

-- numbers in a row
at-range : (k a n : ℕ) → k < a → at (λ (i : ℕ). i) k (range_with_len a n) ≡ None
at-range k a zero lt = refl
at-range k a (suc n) lt =
    let not : nat_eq a k ≡ false = grind (arith, nat_tests) in
    from_past (nat_eq a k) a (at (λ (i : ℕ). i) k (range_with_len (a + 1) n)) not (at-range k (a + 1) n (omega arith))

pub Distinct-range : (a n : ℕ) → Distinct (λ (i : ℕ). i) (range_with_len a n)
Distinct-range a zero = tt
Distinct-range a (suc n) = (at-range a (a + 1) n (omega arith), Distinct-range (a + 1) n)
