-- Numbers that are missing.
use Rattle.std.proofs.Common.{◌≡◌, ℕ, zero, suc, ◌+◌, ◌-◌, ◌<◌, ◌≤◌, true, false, cond, nat_le, max, List, [], ◌∷◌}
use Rattle.std.proofs.Common.{length, map, Option, None, Some, refl, sym, ap, ◌∙◌, arith}
use Rattle.std.specs.Prelude.{filter}
use Rattle.std.specs.List.{range_with_len}
use Rattle.std.proofs.lemmas.Bool.Decides.{nat_tests}
use Rattle.std.proofs.lemmas.List.{length-map}
use Rattle.frame_gate.specs.Packets.{ext_of}
use Rattle.frame_gate.specs.Epochs.{missing_above}

-- the numbers from one on up to before another
abbrev pub between : ℕ → ℕ → List ℕ
between a n = range_with_len a (n - a)

pub between-more : (a n : ℕ) → a < n → between a n ≡ a ∷ between (a + 1) n
between-more a n h = ap (range_with_len a) (let e : n - a ≡ suc (n - (a + 1)) = omega arith in e)

pub between-none : (a n : ℕ) → n ≤ a → between a n ≡ []
between-none a n h = ap (range_with_len a) (let e : n - a ≡ 0 = omega arith in e)

filter-range : (next a m : ℕ) → filter (λ k. nat_le next k) (range_with_len a m) ≡ between (max a next) (a + m)
filter-range next a zero = sym (between-none (max a next) (a + 0) (omega arith))
filter-range next a (suc m) =
    elim (nat_le next a) as (λ b.
    nat_le next a ≡ b
    → cond b (a ∷ filter (λ k. nat_le next k) (range_with_len (a + 1) m))
    (filter (λ k. nat_le next k) (range_with_len (a + 1) m))
    ≡ between (max a next) (a + suc m)) [
      | true ↦ λ is.
          let le : next ≤ a = grind (arith, nat_tests) in
          let e : max a next ≡ a = omega arith in
          let f : max (a + 1) next ≡ a + 1 = omega arith in
          let g : a + 1 + m ≡ a + suc m = omega arith in
          ap (λ (xs : List ℕ). a ∷ xs)
          (filter-range next (a + 1) m ∙ ap (λ k. between k (a + 1 + m)) f ∙ ap (between (a + 1)) g)
          ∙ sym (ap (λ k. between k (a + suc m)) e ∙ between-more a (a + suc m) (omega arith))
      | false ↦ λ is.
          let lt : a < next = grind (arith, nat_tests) in
          let f : max (a + 1) next ≡ max a next = omega arith in
          let g : a + 1 + m ≡ a + suc m = omega arith in
          filter-range next (a + 1) m ∙ ap (λ k. between k (a + 1 + m)) f ∙ ap (between (max a next)) g
    ] refl

pub missing-is : (g next n : ℕ) → between (max (g + 1) next) n ≡ missing_above (Some g) next n
missing-is g next n =
    let a = g + 1 in
    sym (filter-range next a (n - a) ∙ same a)
  where
    same : (a : ℕ) → between (max a next) (a + (n - a)) ≡ between (max a next) n
    same a = ap (range_with_len (max a next)) (let e : a + (n - a) - max a next ≡ n - max a next = omega arith in e)

length-range : (a n : ℕ) → length (range_with_len a n) ≡ n
length-range a zero = refl
length-range a (suc n) = ap suc (length-range (a + 1) n)

-- no more are missing than lie from next on below the number
pub few_missing : (g : Option ℕ) (next n : ℕ) → length (map ext_of (missing_above g next n)) ≤ n - next
few_missing None next n = omega arith
few_missing (Some g) next n =
    let mapped : length (map ext_of (missing_above (Some g) next n)) ≡ length (missing_above (Some g) next n) =
    length-map (missing_above (Some g) next n) ext_of in
    let is : length (missing_above (Some g) next n) ≡ n - max (g + 1) next =
    sym (ap length (missing-is g next n)) ∙ length-range (max (g + 1) next) (n - max (g + 1) next) in
    omega (arith, mapped, is)
