-- Where a biased magnitude lies.
use Rattle.std.proofs.Common.{◌≡◌, ℕ, suc, ◌+◌, ◌-◌, ◌*◌, ◌/◌, ◌%◌, ◌^◌, ◌<◌, ◌≤◌, ◌≢◌, arith, inl, inr, subst, sym}
use Rattle.std.proofs.Math.Nat.{pow-le-pow_right}
use Rattle.std.proofs.lemmas.Nat.{leading_top}
use Rattle.std.proofs.lemmas.Bool.{cases_lt, cases_eq}
use lib.Count.{count_leading_zeros}
use Rattle.sample_codecs.specs.inner.Places.{IsPlace}

place_from : (place e m biased : ℕ) → place ≡ e * 16 + m → m < 16 → e < 8
    → (128 + 8 * m) * 2 ^ e ≤ biased → biased < (136 + 8 * m) * 2 ^ e → IsPlace place biased
place_from place e m biased is small few low high =
    let step : place % 16 ≡ m = omega arith in
    let segment : place / 16 ≡ e = omega arith in
    record {
      fits = omega arith;
      low =
          subst (λ (k : ℕ). (128 + 8 * (place % 16)) * 2 ^ k ≤ biased) (sym segment)
          (subst (λ (k : ℕ). (128 + 8 * k) * 2 ^ e ≤ biased) (sym step) low);
      high =
          subst (λ (k : ℕ). biased < (136 + 8 * (place % 16)) * 2 ^ k) (sym segment)
          (subst (λ (k : ℕ). biased < (136 + 8 * k) * 2 ^ e) (sym step) high);
    }

pub place_0 : (biased : ℕ) → 128 ≤ biased → biased < 256 → IsPlace (0 * 16 + biased / 8 - 16) biased
place_0 biased least most =
    place_from _ 0 (biased / 8 - 16) biased (omega arith) (omega arith) (omega arith) (omega arith) (omega arith)

pub place_1 : (biased : ℕ) → 256 ≤ biased → biased < 512 → IsPlace (1 * 16 + biased / 16 - 16) biased
place_1 biased least most =
    place_from _ 1 (biased / 16 - 16) biased (omega arith) (omega arith) (omega arith) (omega arith) (omega arith)

pub place_2 : (biased : ℕ) → 512 ≤ biased → biased < 1024 → IsPlace (2 * 16 + biased / 32 - 16) biased
place_2 biased least most =
    place_from _ 2 (biased / 32 - 16) biased (omega arith) (omega arith) (omega arith) (omega arith) (omega arith)

pub place_3 : (biased : ℕ) → 1024 ≤ biased → biased < 2048 → IsPlace (3 * 16 + biased / 64 - 16) biased
place_3 biased least most =
    place_from _ 3 (biased / 64 - 16) biased (omega arith) (omega arith) (omega arith) (omega arith) (omega arith)

pub place_4 : (biased : ℕ) → 2048 ≤ biased → biased < 4096 → IsPlace (4 * 16 + biased / 128 - 16) biased
place_4 biased least most =
    place_from _ 4 (biased / 128 - 16) biased (omega arith) (omega arith) (omega arith) (omega arith) (omega arith)

pub place_5 : (biased : ℕ) → 4096 ≤ biased → biased < 8192 → IsPlace (5 * 16 + biased / 256 - 16) biased
place_5 biased least most =
    place_from _ 5 (biased / 256 - 16) biased (omega arith) (omega arith) (omega arith) (omega arith) (omega arith)

pub place_6 : (biased : ℕ) → 8192 ≤ biased → biased < 16384 → IsPlace (6 * 16 + biased / 512 - 16) biased
place_6 biased least most =
    place_from _ 6 (biased / 512 - 16) biased (omega arith) (omega arith) (omega arith) (omega arith) (omega arith)

pub place_7 : (biased : ℕ) → 16384 ≤ biased → biased < 32768 → IsPlace (7 * 16 + biased / 1024 - 16) biased
place_7 biased least most =
    place_from _ 7 (biased / 1024 - 16) biased (omega arith) (omega arith) (omega arith) (omega arith) (omega arith)

-- by the leading zeros of 16 bits
pub place_at : (zeros biased : ℕ) → zeros ≤ 8 → zeros ≢ 0 → 2 ^ (15 - zeros) ≤ biased → biased < 2 ^ (16 - zeros)
    → IsPlace ((8 - zeros) * 16 + biased / 2 ^ (8 - zeros + 3) - 16) biased
place_at zeros biased most some low high = elim (cases_eq zeros 1) [
  | inl is ↦ subst (λ (z : ℕ). IsPlace ((8 - z) * 16 + biased / 2 ^ (8 - z + 3) - 16) biased) (sym is)
      (place_7 biased (subst (λ (z : ℕ). 2 ^ (15 - z) ≤ biased) is low)
      (subst (λ (z : ℕ). biased < 2 ^ (16 - z)) is high))
  | inr not1 ↦ elim (cases_eq zeros 2) [
    | inl is ↦ subst (λ (z : ℕ). IsPlace ((8 - z) * 16 + biased / 2 ^ (8 - z + 3) - 16) biased) (sym is)
        (place_6 biased (subst (λ (z : ℕ). 2 ^ (15 - z) ≤ biased) is low)
        (subst (λ (z : ℕ). biased < 2 ^ (16 - z)) is high))
    | inr not2 ↦ elim (cases_eq zeros 3) [
      | inl is ↦ subst (λ (z : ℕ). IsPlace ((8 - z) * 16 + biased / 2 ^ (8 - z + 3) - 16) biased) (sym is)
          (place_5 biased (subst (λ (z : ℕ). 2 ^ (15 - z) ≤ biased) is low)
          (subst (λ (z : ℕ). biased < 2 ^ (16 - z)) is high))
      | inr not3 ↦ elim (cases_eq zeros 4) [
        | inl is ↦ subst (λ (z : ℕ). IsPlace ((8 - z) * 16 + biased / 2 ^ (8 - z + 3) - 16) biased) (sym is)
            (place_4 biased (subst (λ (z : ℕ). 2 ^ (15 - z) ≤ biased) is low)
            (subst (λ (z : ℕ). biased < 2 ^ (16 - z)) is high))
        | inr not4 ↦ elim (cases_eq zeros 5) [
          | inl is ↦ subst (λ (z : ℕ). IsPlace ((8 - z) * 16 + biased / 2 ^ (8 - z + 3) - 16) biased) (sym is)
              (place_3 biased (subst (λ (z : ℕ). 2 ^ (15 - z) ≤ biased) is low)
              (subst (λ (z : ℕ). biased < 2 ^ (16 - z)) is high))
          | inr not5 ↦ elim (cases_eq zeros 6) [
            | inl is ↦ subst (λ (z : ℕ). IsPlace ((8 - z) * 16 + biased / 2 ^ (8 - z + 3) - 16) biased) (sym is)
                (place_2 biased (subst (λ (z : ℕ). 2 ^ (15 - z) ≤ biased) is low)
                (subst (λ (z : ℕ). biased < 2 ^ (16 - z)) is high))
            | inr not6 ↦ elim (cases_eq zeros 7) [
              | inl is ↦ subst (λ (z : ℕ). IsPlace ((8 - z) * 16 + biased / 2 ^ (8 - z + 3) - 16) biased) (sym is)
                  (place_1 biased (subst (λ (z : ℕ). 2 ^ (15 - z) ≤ biased) is low)
                  (subst (λ (z : ℕ). biased < 2 ^ (16 - z)) is high))
              | inr not7 ↦ elim (cases_eq zeros 8) [
                | inl is ↦ subst (λ (z : ℕ). IsPlace ((8 - z) * 16 + biased / 2 ^ (8 - z + 3) - 16) biased) (sym is)
                    (place_0 biased (subst (λ (z : ℕ). 2 ^ (15 - z) ≤ biased) is low)
                    (subst (λ (z : ℕ). biased < 2 ^ (16 - z)) is high))
                | inr not8 ↦ absurd (omega (arith, some, not1, not2, not3, not4, not5, not6, not7, not8))
              ]
            ]
          ]
        ]
      ]
    ]
  ]
]

pub zeros_of : (biased : ℕ) → 128 ≤ biased → biased < 32768
    → (count_leading_zeros 16 biased ≤ 8) × (count_leading_zeros 16 biased ≢ 0)
    × (2 ^ (15 - count_leading_zeros 16 biased) ≤ biased) × (biased < 2 ^ (16 - count_leading_zeros 16 biased))
zeros_of biased least most = by (count_leading_zeros 16 biased) top.0 top.1 top.2 top.3
  where
    top : (j : ℕ) × (count_leading_zeros 16 biased + suc j ≡ 16) × (2 ^ j ≤ biased) × (biased < 2 ^ suc j)
    top = leading_top 16 biased (omega (arith, least)) (omega (arith, most))

    by : (zeros j : ℕ) → zeros + suc j ≡ 16 → 2 ^ j ≤ biased → biased < 2 ^ suc j
        → (zeros ≤ 8) × (zeros ≢ 0) × (2 ^ (15 - zeros) ≤ biased) × (biased < 2 ^ (16 - zeros))
    by zeros j sum low high =
        let e : 15 - zeros ≡ j = omega arith in
        let f : 16 - zeros ≡ suc j = omega arith in
        (few, some, subst (λ (k : ℕ). 2 ^ k ≤ biased) (sym e) low, subst (λ (k : ℕ). biased < 2 ^ k) (sym f) high)
      where
        few : zeros ≤ 8
        few = elim (cases_lt j 7) [
          | inl less ↦
              let le : 2 ^ suc j ≤ 2 ^ 7 =
              pow-le-pow_right {n = 2} (omega arith) {i = suc j} {j = 7} (omega (arith, less)) in
              absurd (omega (arith, le))
          | inr more ↦ omega arith
        ]

        some : zeros ≢ 0
        some = λ none.
            let le : 2 ^ 15 ≤ 2 ^ j = pow-le-pow_right {n = 2} (omega arith) {i = 15} {j = j} (omega (arith, none)) in
            absurd (omega (arith, le))
