-- The octet that holds a sample.
use Rattle.std.proofs.Common.{◌≡◌, ℕ, ℤ, suc, ◌+◌, ◌*◌, ◌^◌, ◌<◌, ◌≤◌, arith, inl, inr, subst, sym}
use Rattle.std.proofs.Math.Nat.{pow-le-pow_right, pow-suc}
use Rattle.std.proofs.lemmas.Nat.{mul-le}
use Rattle.std.proofs.lemmas.Bool.{cases_lt, cases_order}
use Rattle.sample_codecs.specs.MuLaw.{turned, segment, step, biased, Holds}

-- what begins a later segment is above each interval of an earlier one
apart : (d e m n b : ℕ) → m < 16 → d < e → b < (136 + 8 * m) * 2 ^ d → (128 + 8 * n) * 2 ^ e ≤ b → ⊥
apart d e m n b small less high low =
    let up : (136 + 8 * m) * 2 ^ d ≤ 256 * 2 ^ d =
    mul-le (136 + 8 * m) (2 ^ d) 256 (2 ^ d) (omega arith) (omega arith) in
    let down : 128 * 2 ^ e ≤ (128 + 8 * n) * 2 ^ e =
    mul-le 128 (2 ^ e) (128 + 8 * n) (2 ^ e) (omega arith) (omega arith) in
    let more : 2 ^ suc d ≤ 2 ^ e = pow-le-pow_right {n = 2} (omega arith) {i = suc d} {j = e} (omega arith) in
    by ((136 + 8 * m) * 2 ^ d) ((128 + 8 * n) * 2 ^ e) (2 ^ d) (2 ^ e) up down
    (subst (λ (k : ℕ). k ≤ 2 ^ e) (pow-suc 2 d) more) high low
  where
    by : (x y p q : ℕ) → x ≤ 256 * p → 128 * q ≤ y → p * 2 ≤ q → b < x → y ≤ b → ⊥
    by x y p q h i j k l = absurd (omega (arith, h, i, j, k, l))

-- likewise for the steps of a segment
after : (p m n b : ℕ) → m < n → b < (136 + 8 * m) * p → (128 + 8 * n) * p ≤ b → ⊥
after p m n b less high low =
    let le : (136 + 8 * m) * p ≤ (128 + 8 * n) * p =
    mul-le (136 + 8 * m) p (128 + 8 * n) p (omega arith) (omega arith) in
    by ((136 + 8 * m) * p) ((128 + 8 * n) * p) le high low
  where
    by : (x y : ℕ) → x ≤ y → b < x → y ≤ b → ⊥
    by x y h k l = absurd (omega (arith, h, k, l))

same_segment : (sample : ℤ) (a b : ℕ) → Holds sample a → Holds sample b → segment a ≡ segment b
same_segment sample a b h k = elim (cases_order (segment a) (segment b)) [
  | inl is ↦ is
  | inr (inl less) ↦
      absurd (apart (segment a) (segment b) (step a) (step b) (biased sample) (omega arith) less h.high k.low)
  | inr (inr less) ↦
      absurd (apart (segment b) (segment a) (step b) (step a) (biased sample) (omega arith) less k.high h.low)
]

same_step : (sample : ℤ) (a b : ℕ) → segment a ≡ segment b → Holds sample a → Holds sample b → step a ≡ step b
same_step sample a b is h k = elim (cases_order (step a) (step b)) [
  | inl e ↦ e
  | inr (inl less) ↦
      absurd (after (2 ^ segment b) (step a) (step b) (biased sample) less
      (subst (λ (e : ℕ). biased sample < (136 + 8 * step a) * 2 ^ e) is h.high) k.low)
  | inr (inr less) ↦
      absurd (after (2 ^ segment a) (step b) (step a) (biased sample) less
      (subst (λ (e : ℕ). biased sample < (136 + 8 * step b) * 2 ^ e) (sym is) k.high) h.low)
]

-- one octet alone holds a sample
pub only_one : (sample : ℤ) (a b : ℕ) → Holds sample a → Holds sample b → a ≡ b
only_one sample a b h k =
    let segments : segment a ≡ segment b = same_segment sample a b h k in
    let steps : step a ≡ step b = same_step sample a b segments h k in
    let octet_a : a < 256 = h.octet in
    let octet_b : b < 256 = k.octet in
    elim (cases_lt (turned a) 128) [
      | inl low ↦ elim (cases_lt (turned b) 128) [
        | inl too ↦ omega (arith, low, too)
        | inr high ↦ absurd (omega (arith, low, h.sign.1 (k.sign.0 high)))
      ]
      | inr high ↦ elim (cases_lt (turned b) 128) [
        | inl low ↦ absurd (omega (arith, low, k.sign.1 (h.sign.0 high)))
        | inr too ↦ omega (arith, high, too)
      ]
    ]
