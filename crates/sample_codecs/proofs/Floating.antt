-- What a float keeps of a biased magnitude: its exponent, and its first four digits (IEEE 754 binary32).
use Rattle.std.proofs.Common.{◌≡◌, ℕ, suc, ◌+◌, ◌-◌, ◌*◌, ◌/◌, ◌^◌, ◌<◌, ◌≤◌, false, pos, T, not, zero-add, suc-add}
use Rattle.std.proofs.Common.{arith, inl, inr, refl, le_trans, shl_lt, ap, ◌∙◌, sym, subst, mul-div_cancel, mul-one}
use Rattle.std.proofs.Common.{mul_right_comm, pow_pos, mul-le-mul_right, lt_of_not-le, lt_irrefl, lt_of_lt_of_le}
use Rattle.std.proofs.Common.{mul_assoc, pow-add}
use lib.Ieee.{Float, nan, inf, fin, binary32, up, down, size, of_int, to_bits, is_nan}
use lib.Ieee.Back.{round_whole}
use lib.Ieee.Digits.{size-lt, size-le}
use lib.Ieee.Exact.{HasValue}
use lib.Ieee.Fits.{down_pos}
use Rattle.std.proofs.Math.Nat.{pow-le-pow_right}
use Rattle.std.proofs.lemmas.Bool.{cases_lt}
use Rattle.sample_codecs.specs.inner.Places.{IsPlace}
use Rattle.sample_codecs.proofs.Placing.{place_0, place_1, place_2, place_3, place_4, place_5, place_6, place_7}

-- the bits by the number in units of the smallest value
abbrev bits_by : ℕ → ℕ
bits_by w = 0 + (size w - 24) * 2 ^ 23 + w / 2 ^ (size w - 24)

units_is : (m u d n : ℕ) → 0 < d → m * u * 1 ≡ n * d → m * u * 2 ^ 149 / d ≡ n * 2 ^ 149
units_is m u d n some value =
    let plain : m * u ≡ n * d = sym (mul-one (m * u)) ∙ value in
    ap (λ (x : ℕ). x * 2 ^ 149 / d) plain
    ∙ ap (λ (x : ℕ). x / d) (mul_right_comm n d (2 ^ 149))
    ∙ mul-div_cancel (n * 2 ^ 149) some

bits_are : (x : Float) (n : ℕ) → HasValue x false n 1 → to_bits binary32 x ≡ bits_by (n * 2 ^ 149)
unfolding to_bits
bits_are nan n v = absurd v
bits_are (inf t) n v = absurd v
bits_are (fin t m e) n v =
    rw v.0 (ap bits_by (units_is m (up e) (down e) n (down_pos e) v.1))

no_nan : (x : Float) (n : ℕ) → HasValue x false n 1 → T (not (is_nan x))
unfolding is_nan
no_nan nan n v = absurd v
no_nan (inf t) n v = absurd v
no_nan (fin t m e) n v = tt

value_of : (n : ℕ) → n < 32768 → HasValue (of_int binary32 (pos n)) false n 1
unfolding of_int
value_of n small = round_whole binary32 false n (omega arith)

pub is_number : (n : ℕ) → n < 32768 → T (not (is_nan (of_int binary32 (pos n))))
is_number n small = no_nan _ n (value_of n small)

size_at : (w k : ℕ) → 2 ^ k ≤ w → w < 2 ^ suc k → size w ≡ suc k
size_at w k low high =
    let most : size w ≤ suc k = size-le w (suc k) high in
    let least : k < size w = lt_of_not-le (λ (le : size w ≤ k).
    lt_irrefl w
    (lt_of_lt_of_le (size-lt w) (le_trans (pow-le-pow_right {n = 2} (omega arith) {i = size w} {j = k} le) low))) in
    omega (arith, most, least)

-- a magnitude of suc k digits, where k + j is 23
bits_at : (n k j : ℕ) → k + j ≡ 23 → 2 ^ k ≤ n → n < 2 ^ suc k → n < 32768
    → to_bits binary32 (of_int binary32 (pos n)) ≡ (k + 126) * 2 ^ 23 + n * 2 ^ j
bits_at n k j sum low high small =
    let least : 2 ^ (k + 149) ≤ n * 2 ^ 149 =
    subst (λ (x : ℕ). x ≤ n * 2 ^ 149) (sym (pow-add 2 k 149)) (mul-le-mul_right {m = 2 ^ k} {n = n} (2 ^ 149) low) in
    let most : n * 2 ^ 149 < 2 ^ suc (k + 149) =
    subst (λ (x : ℕ). n * 2 ^ 149 < 2 ^ x) (suc-add k 149) (shl_lt {a = n} (suc k) 149 high) in
    let digits : size (n * 2 ^ 149) ≡ suc (k + 149) = size_at (n * 2 ^ 149) (k + 149) least most in
    let dropped : size (n * 2 ^ 149) - 24 ≡ k + 126 = omega (arith, digits) in
    let split : 149 ≡ j + (k + 126) = omega (arith, sum) in
    let parted : n * 2 ^ 149 ≡ n * 2 ^ j * 2 ^ (k + 126) =
    ap (λ (x : ℕ). n * 2 ^ x) split
    ∙ ap (λ (x : ℕ). n * x) (pow-add 2 j (k + 126))
    ∙ sym (mul_assoc n (2 ^ j) (2 ^ (k + 126))) in
    let quotient : n * 2 ^ 149 / 2 ^ (k + 126) ≡ n * 2 ^ j =
    ap (λ (x : ℕ). x / 2 ^ (k + 126)) parted ∙ mul-div_cancel (n * 2 ^ j) (pow_pos (k + 126)) in
    bits_are _ n (value_of n small)
    ∙ ap (λ (x : ℕ). x + n * 2 ^ 149 / 2 ^ (size (n * 2 ^ 149) - 24)) (zero-add ((size (n * 2 ^ 149) - 24) * 2 ^ 23))
    ∙ ap (λ (x : ℕ). x * 2 ^ 23 + n * 2 ^ 149 / 2 ^ x) dropped
    ∙ ap (λ (x : ℕ). (k + 126) * 2 ^ 23 + x) quotient

-- the exponent and the first digits
pub record Kept (bits n : ℕ) : Type 0 where
  pub least : 2144 ≤ bits / 524288
  pub most : bits / 524288 < 65536
  pub place : IsPlace (bits / 524288 - 2144) n

kept : (bits n place : ℕ) → bits / 524288 ≡ place + 2144 → place < 128 → IsPlace place n → Kept bits n
kept bits n place is few placed = record {
  least = omega (arith, is);
  most = omega (arith, is, few);
  place = subst (λ (p : ℕ). IsPlace p n) (sym (omega (arith, is))) placed;
}

kept_0 : (n : ℕ) → 128 ≤ n → n < 256 → Kept (to_bits binary32 (of_int binary32 (pos n))) n
kept_0 n low high =
    let bits = bits_at n 7 16 refl low high (omega arith) in
    kept _ n (0 * 16 + n / 8 - 16) (omega (arith, bits)) (omega (arith, low, high)) (place_0 n low high)

kept_1 : (n : ℕ) → 256 ≤ n → n < 512 → Kept (to_bits binary32 (of_int binary32 (pos n))) n
kept_1 n low high =
    let bits = bits_at n 8 15 refl low high (omega arith) in
    kept _ n (1 * 16 + n / 16 - 16) (omega (arith, bits)) (omega (arith, low, high)) (place_1 n low high)

kept_2 : (n : ℕ) → 512 ≤ n → n < 1024 → Kept (to_bits binary32 (of_int binary32 (pos n))) n
kept_2 n low high =
    let bits = bits_at n 9 14 refl low high (omega arith) in
    kept _ n (2 * 16 + n / 32 - 16) (omega (arith, bits)) (omega (arith, low, high)) (place_2 n low high)

kept_3 : (n : ℕ) → 1024 ≤ n → n < 2048 → Kept (to_bits binary32 (of_int binary32 (pos n))) n
kept_3 n low high =
    let bits = bits_at n 10 13 refl low high (omega arith) in
    kept _ n (3 * 16 + n / 64 - 16) (omega (arith, bits)) (omega (arith, low, high)) (place_3 n low high)

kept_4 : (n : ℕ) → 2048 ≤ n → n < 4096 → Kept (to_bits binary32 (of_int binary32 (pos n))) n
kept_4 n low high =
    let bits = bits_at n 11 12 refl low high (omega arith) in
    kept _ n (4 * 16 + n / 128 - 16) (omega (arith, bits)) (omega (arith, low, high)) (place_4 n low high)

kept_5 : (n : ℕ) → 4096 ≤ n → n < 8192 → Kept (to_bits binary32 (of_int binary32 (pos n))) n
kept_5 n low high =
    let bits = bits_at n 12 11 refl low high (omega arith) in
    kept _ n (5 * 16 + n / 256 - 16) (omega (arith, bits)) (omega (arith, low, high)) (place_5 n low high)

kept_6 : (n : ℕ) → 8192 ≤ n → n < 16384 → Kept (to_bits binary32 (of_int binary32 (pos n))) n
kept_6 n low high =
    let bits = bits_at n 13 10 refl low high (omega arith) in
    kept _ n (6 * 16 + n / 512 - 16) (omega (arith, bits)) (omega (arith, low, high)) (place_6 n low high)

kept_7 : (n : ℕ) → 16384 ≤ n → n < 32768 → Kept (to_bits binary32 (of_int binary32 (pos n))) n
kept_7 n low high =
    let bits = bits_at n 14 9 refl low high (omega arith) in
    kept _ n (7 * 16 + n / 1024 - 16) (omega (arith, bits)) (omega (arith, low, high)) (place_7 n low high)

pub kept_of : (n : ℕ) → 128 ≤ n → n < 32768 → Kept (to_bits binary32 (of_int binary32 (pos n))) n
kept_of n least most = elim (cases_lt n 256) [
  | inl less ↦ kept_0 n least less
  | inr more0 ↦ elim (cases_lt n 512) [
    | inl less ↦ kept_1 n more0 less
    | inr more1 ↦ elim (cases_lt n 1024) [
      | inl less ↦ kept_2 n more1 less
      | inr more2 ↦ elim (cases_lt n 2048) [
        | inl less ↦ kept_3 n more2 less
        | inr more3 ↦ elim (cases_lt n 4096) [
          | inl less ↦ kept_4 n more3 less
          | inr more4 ↦ elim (cases_lt n 8192) [
            | inl less ↦ kept_5 n more4 less
            | inr more5 ↦ elim (cases_lt n 16384) [
              | inl less ↦ kept_6 n more5 less
              | inr more6 ↦ kept_7 n more6 most
            ]
          ]
        ]
      ]
    ]
  ]
]
