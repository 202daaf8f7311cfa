-- A ring that is in two parts, and one that moves on.
use Rattle.std.proofs.Common.{◌≡◌, ◌∙◌, ap, sym, refl, ℕ, ℤ, zero, suc, ◌+◌, ◌-◌, ◌<◌, ◌≤◌, ◌⊎◌, inl, inr, List, []}
use Rattle.std.proofs.Common.{◌∷◌, ◌++◌, Option, None, length, take, drop, replicate, get_or, min, append-nil}
use Rattle.std.proofs.Common.{length-append, length-drop, arith}
use Rattle.std.proofs.lemmas.List.{take_all, take-append-le, get_or-drop, length-replicate}
use Rattle.std.proofs.Math.Seq.{take-append-add}
use Rattle.playout.specs.Playout.{Pair, sample_at}
use Rattle.playout.specs.inner.Agrees.{Agrees}
use Rattle.playout.proofs.Offered.{eq_cases}

below_or_not : (m n : ℕ) → (m < n) ⊎ (n ≤ m)
below_or_not m n = elim (eq_cases (n - m) 0) [
  | inl none ↦ let le : n ≤ m = omega (arith, none) in inr le
  | inr some ↦ let lt : m < n = omega (arith, some) in inl lt
]

-- the first n of two parts, of which so many are in the first part
pub first_of_both : {X : Type 0} (front back : List X) (split n : ℕ) → split ≡ min (length front) n
    → take split front ++ take (n - split) back ≡ take n (front ++ back)
first_of_both front back split n is = elim (below_or_not (length front) n) [
  | inl less ↦
      let all : split ≡ length front = omega (arith, is, less) in
      let rest : length front + (n - split) ≡ n = omega (arith, all, less) in
      ap (λ xs. xs ++ take (n - split) back) (take_all split front (omega (arith, all)))
      ∙ sym (take-append-add front back (n - split))
      ∙ ap (λ k. take k (front ++ back)) rest
  | inr le ↦
      let all : split ≡ n = omega (arith, is, le) in
      let none : n - split ≡ 0 = omega (arith, all) in
      ap (λ k. take split front ++ take k back) none
      ∙ append-nil (take split front)
      ∙ ap (λ k. take k front) all
      ∙ sym (take-append-le n front back le)
]

-- cells at the end that have no sample are no other than none
pad : (xs : List (Option ℤ)) (n j : ℕ) → get_or (xs ++ replicate n None) j None ≡ get_or xs j None
pad [] zero j = refl
pad [] (suc n) zero = refl
pad [] (suc n) (suc j) = pad [] n j
pad (x ∷ xs) n zero = refl
pad (x ∷ xs) n (suc j) = pad xs n j

beyond : (xs : List (Option ℤ)) (j : ℕ) → length xs ≤ j → get_or xs j None ≡ None
beyond [] j le = refl
beyond (x ∷ xs) zero le = absurd (omega (arith, le))
beyond (x ∷ xs) (suc j) le = beyond xs j (omega (arith, le))

-- so many places further on
pub moved_on : (cells new : List (Option ℤ)) (pairs : List Pair) (p n : ℕ) → new ≡ drop n (cells ++ replicate n None)
    → Agrees cells pairs p → Agrees new pairs (p + n)
moved_on cells new pairs p n is a = record { here = here; behind = behind }
  where
    long : length new ≡ length cells
    long =
        let none : Option ℤ = None in
        let all = length-append cells (replicate n none) in
        let more = length-replicate n none in
        ap length is ∙ length-drop n (cells ++ replicate n None) ∙ omega (arith, all, more)

    cell : (j : ℕ) → get_or new j None ≡ get_or cells (n + j) None
    cell j =
        ap (λ (xs : List (Option ℤ)). get_or xs j None) is
        ∙ get_or-drop n (cells ++ replicate n None) j None
        ∙ pad cells n (n + j)

    here : (j : ℕ) → j < length new → get_or new j None ≡ sample_at pairs (p + n + j)
    here j lt = elim (below_or_not (n + j) (length cells)) [
      | inl less ↦
          let e : p + (n + j) ≡ p + n + j = omega arith in cell j ∙ a.here (n + j) less ∙ ap (sample_at pairs) e
      | inr le ↦ cell j ∙ beyond cells (n + j) le ∙ sym (a.behind (p + n + j) (omega (arith, le)))
    ]

    behind : (k : ℕ) → p + n + length new ≤ k → sample_at pairs k ≡ None
    behind k above = a.behind k (omega (arith, above, long))
