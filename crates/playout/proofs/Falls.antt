-- Where a put falls.
use Rattle.std.proofs.Common.{◌≡◌, ℕ, ℤ, ◌+◌, ◌-◌, ◌<◌, ◌≤◌, ◌^◌, ◌%◌, false, nat_lt, nat_le, List, length, drop, take}
use Rattle.std.proofs.Common.{length-drop, refl, sym, ap, ◌∙◌, arith}
use Rattle.std.proofs.lemmas.List.{take_all}
use Rattle.std.proofs.lemmas.Bool.Decides.{nat_tests}
use Rattle.playout.specs.declared.placed.PlacedSamples.TheVariants.{Kept}
use Rattle.playout.specs.Playout.{Pair, offers, place_of, placed_of, pairs_after}
use Rattle.playout.proofs.Offered.{below_left}

lt_no : (m n : ℕ) → n ≤ m → nat_lt m n ≡ false
lt_no m n h = grind (arith, nat_tests)

le_no : (m n : ℕ) → n < m → nat_le m n ≡ false
le_no m n h = grind (arith, nat_tests)

pub place_far : (p ts w far : ℕ) → p % 2 ^ 32 ≡ w → far ≡ (ts + 2 ^ 31 + 2 ^ 32 - w) % 2 ^ 32
    → place_of p ts ≡ p + far - 2 ^ 31
place_far p ts w far h is =
    ap (λ v. p + (ts + 2 ^ 31 + 2 ^ 32 - v) % 2 ^ 32 - 2 ^ 31) h ∙ ap (λ f. p + f - 2 ^ 31) (sym is)

pub placed_kept : (rate p q ts : ℕ) (pairs : List Pair) (samples : List ℤ) → place_of p ts ≡ q
    → q + length samples ≤ p + rate → p ≤ q + rate → p < q + length samples
    → placed_of rate p pairs ts samples ≡ Kept (length (offers p pairs q samples) - length pairs)
placed_kept rate p q ts pairs samples is end start some =
    let a : nat_lt (p + rate) (q + length samples) ≡ false = lt_no _ _ end in
    let b : nat_lt (q + rate) p ≡ false = lt_no _ _ start in
    let d : nat_le (q + length samples) p ≡ false = le_no _ _ some in
    rw (is, a, b, d) refl

pub after_kept : (rate p q ts : ℕ) (pairs : List Pair) (samples : List ℤ) → place_of p ts ≡ q
    → q + length samples ≤ p + rate → p ≤ q + rate → p < q + length samples
    → pairs_after rate p pairs ts samples ≡ offers p pairs q samples
after_kept rate p q ts pairs samples is end start some =
    let a : nat_lt (p + rate) (q + length samples) ≡ false = lt_no _ _ end in
    let b : nat_lt (q + rate) p ≡ false = lt_no _ _ start in
    let d : nat_le (q + length samples) p ≡ false = le_no _ _ some in
    rw (is, a, b, d) refl

pub count_is : (all some count : ℕ) → all ≡ some + count → count ≡ all - some
count_is all some count e = omega (arith, e)

-- the samples from the position on are all that count
pub late_part : (p q b : ℕ) (pairs : List Pair) (samples : List ℤ) → q + b ≡ p
    → offers p pairs q samples ≡ offers p pairs (p + 0) (take (length samples - b) (drop b samples))
late_part p q b pairs samples e =
    below_left p b q pairs samples e
    ∙ (let z : p ≡ p + 0 = omega arith in ap (λ (n : ℕ). offers p pairs n (drop b samples)) z)
    ∙ ap (offers p pairs (p + 0))
    (sym (take_all (length samples - b) (drop b samples) (omega (arith, length-drop b samples))))
