-- One pass after the other.
use Rattle.std.proofs.Common.{◌≡◌, ℕ, zero, suc, ℤ, pos, ◌+◌, ◌*◌, ◌<◌, ◌≤◌, ◌+ℤ◌, ◌-ℤ◌, List, [], ◌∷◌, length, drop}
use Rattle.std.proofs.Common.{refl, sym, arith, subst}
use Rattle.std.proofs.Common.{get_or, add-one, zero-add, drop-cons}
use Rattle.std.proofs.lemmas.List.{drop_all}
use Rattle.std.proofs.lemmas.Int.{ints}
use Rattle.mix_minus.specs.declared.input.Input.{Input}
use Rattle.mix_minus.specs.Mix.{heard, heard_sum, sample_at, sample_sum, IsTotal}
use Rattle.mix_minus.specs.Sums.{at, IsWithin, AreSmall}
use Rattle.mix_minus.specs.inner.Passes.{four_at, Moves, Passes}

-- After k passes: what the others will add is left.
pub record Underway (base : ℕ) (rest : ℕ → ℕ → ℤ) (old now : List ℤ) (k : ℕ) : Type 0 where
  pub left : (i : ℕ) → i < length old → at now i +ℤ rest k i ≡ at old i +ℤ rest 0 i
  pub small : (i : ℕ) → i < length old → IsWithin (base + 262144 * k) (at now i)

pub underway_more : (base : ℕ) (rest : ℕ → ℕ → ℤ) (x : ℕ → ℤ) (old now new : List ℤ) (k : ℕ)
    → length now ≡ length old → ((i : ℕ) → rest k i ≡ x i +ℤ rest (k + 1) i)
    → Passes x now new → Underway base rest old now k → Underway base rest old new (k + 1)
underway_more base rest x old now new k long next pass u = record {
  left = λ i lt. left i (next i) (pass.moves i (subst (λ (n : ℕ). i < n) (sym long) lt)) (u.left i lt);
  small = λ i lt. small i (pass.moves i (subst (λ (n : ℕ). i < n) (sym long) lt)) (u.small i lt);
}
  where
    left : (i : ℕ) → rest k i ≡ x i +ℤ rest (k + 1) i → Moves (x i) (at now i) (at new i)
        → at now i +ℤ rest k i ≡ at old i +ℤ rest 0 i
        → at new i +ℤ rest (k + 1) i ≡ at old i +ℤ rest 0 i
    left i n m h = let s : at new i ≡ at now i +ℤ x i = m.sum in omega (arith, ints)

    small : (i : ℕ) → Moves (x i) (at now i) (at new i) → IsWithin (base + 262144 * k) (at now i)
        → IsWithin (base + 262144 * (k + 1)) (at new i)
    small i m h = record { low = omega (arith, ints); high = omega (arith, ints) }

pub underway_four : (base : ℕ) (rest : ℕ → ℕ → ℤ) (x : ℕ → ℤ) (old now new : List ℤ) (k : ℕ)
    → length now ≡ length old → ((i : ℕ) → rest k i ≡ x i +ℤ rest (k + 4) i)
    → Passes x now new → Underway base rest old now k → Underway base rest old new (k + 4)
underway_four base rest x old now new k long next pass u = record {
  left = λ i lt. left i (next i) (pass.moves i (subst (λ (n : ℕ). i < n) (sym long) lt)) (u.left i lt);
  small = λ i lt. small i (pass.moves i (subst (λ (n : ℕ). i < n) (sym long) lt)) (u.small i lt);
}
  where
    left : (i : ℕ) → rest k i ≡ x i +ℤ rest (k + 4) i → Moves (x i) (at now i) (at new i)
        → at now i +ℤ rest k i ≡ at old i +ℤ rest 0 i
        → at new i +ℤ rest (k + 4) i ≡ at old i +ℤ rest 0 i
    left i n m h = let s : at new i ≡ at now i +ℤ x i = m.sum in omega (arith, ints)

    small : (i : ℕ) → Moves (x i) (at now i) (at new i) → IsWithin (base + 262144 * k) (at now i)
        → IsWithin (base + 262144 * (k + 4)) (at new i)
    small i m h = record { low = omega (arith, ints); high = omega (arith, ints) }

-- the sum of the changes by turn
abbrev pub turn_sum : ℕ → ℕ → List Input → List ℕ → ℤ
turn_sum receiver i [] gains = pos 0
turn_sum receiver i (input ∷ inputs) [] = pos 0
turn_sum receiver i (input ∷ inputs) (gain ∷ gains) =
    (heard receiver i input gain -ℤ sample_at input i) +ℤ turn_sum receiver i inputs gains

pub turned : (receiver i : ℕ) (inputs : List Input) (gains : List ℕ) → length gains ≡ length inputs
    → turn_sum receiver i inputs gains +ℤ sample_sum i inputs ≡ heard_sum receiver i inputs gains
turned receiver i [] gains long = refl
turned receiver i (input ∷ inputs) [] long = absurd (omega (arith, long))
turned receiver i (input ∷ inputs) (gain ∷ gains) long =
    let rec : turn_sum receiver i inputs gains +ℤ sample_sum i inputs ≡ heard_sum receiver i inputs gains =
    turned receiver i inputs gains (omega (arith, long)) in
    regroup (heard receiver i input gain) (sample_at input i) (turn_sum receiver i inputs gains) (sample_sum i inputs)
    (heard_sum receiver i inputs gains) rec
  where
    regroup : (h s t p q : ℤ) → t +ℤ p ≡ q → ((h -ℤ s) +ℤ t) +ℤ (s +ℤ p) ≡ h +ℤ q
    regroup h s t p q e = omega (arith, ints)

-- ---- what is left from input k on

pub sample_next : (i k : ℕ) (inputs : List Input) (d : Input) → k < length inputs
    → sample_sum i (drop k inputs) ≡ at (get_or inputs k d).samples.now (0 + i) +ℤ sample_sum i (drop (k + 1) inputs)
sample_next i k inputs d lt = rw (add-one, zero-add, drop-cons inputs k d lt) refl

pub sample_four : (i k : ℕ) (inputs : List Input) (a b c d : Input) → k + 4 ≤ length inputs
    → sample_sum i (drop k inputs)
    ≡ four_at (get_or inputs k a).samples.now (get_or inputs (k + 1) b).samples.now
    (get_or inputs (k + 2) c).samples.now (get_or inputs (k + 3) d).samples.now i
    +ℤ sample_sum i (drop (k + 4) inputs)
sample_four i k inputs a b c d le =
    by _ _ _ _ _ _ _ _ _ (step k (k + 1) a (omega arith) (omega (arith, le)))
    (step (k + 1) (k + 2) b (omega arith) (omega (arith, le)))
    (step (k + 2) (k + 3) c (omega arith) (omega (arith, le)))
    (step (k + 3) (k + 4) d (omega arith) (omega (arith, le)))
  where
    step : (j n : ℕ) (e : Input) → n ≡ j + 1 → j < length inputs
        → sample_sum i (drop j inputs) ≡ at (get_or inputs j e).samples.now i +ℤ sample_sum i (drop n inputs)
    step j n e is lt = rw (is, add-one, drop-cons inputs j e lt) refl

    by : (s0 s1 s2 s3 s4 a b c d : ℤ) → s0 ≡ a +ℤ s1 → s1 ≡ b +ℤ s2 → s2 ≡ c +ℤ s3 → s3 ≡ d +ℤ s4
        → s0 ≡ ((a +ℤ b) +ℤ (c +ℤ d)) +ℤ s4
    by s0 s1 s2 s3 s4 a b c d e0 e1 e2 e3 = omega (arith, ints)

pub heard_next : (receiver i k : ℕ) (inputs : List Input) (gains : List ℕ) (d : Input) (e : ℕ) → k < length inputs
    → length gains ≡ length inputs
    → heard_sum receiver i (drop k inputs) (drop k gains)
    ≡ heard receiver i (get_or inputs k d) (get_or gains k e)
    +ℤ heard_sum receiver i (drop (k + 1) inputs) (drop (k + 1) gains)
heard_next receiver i k inputs gains d e lt paired =
    let lt2 : k < length gains = omega arith in
    rw (add-one, drop-cons inputs k d lt, drop-cons gains k e lt2) refl

pub turn_next : (receiver i k : ℕ) (inputs : List Input) (gains : List ℕ) (d : Input) (e : ℕ) → k < length inputs
    → length gains ≡ length inputs
    → turn_sum receiver i (drop k inputs) (drop k gains)
    ≡ (heard receiver i (get_or inputs k d) (get_or gains k e) -ℤ sample_at (get_or inputs k d) i)
    +ℤ turn_sum receiver i (drop (k + 1) inputs) (drop (k + 1) gains)
turn_next receiver i k inputs gains d e lt paired =
    let lt2 : k < length gains = omega arith in
    rw (add-one, drop-cons inputs k d lt, drop-cons gains k e lt2) refl

pub turn_none : (receiver i k : ℕ) (inputs : List Input) (gains : List ℕ) → length inputs ≤ k
    → turn_sum receiver i (drop k inputs) gains ≡ pos 0
turn_none receiver i k inputs gains le = rw (drop_all k inputs le) refl

-- all changes are made
pub turn_done : (base receiver start i k : ℕ) (inputs : List Input) (gains : List ℕ) (old now : List ℤ)
    → length gains ≡ length inputs → length inputs ≤ k → i < length old
    → Underway base (λ k i. turn_sum receiver (start + i) (drop k inputs) (drop k gains)) old now k
    → at now i +ℤ sample_sum (start + i) inputs ≡ at old i +ℤ heard_sum receiver (start + i) inputs gains
turn_done base receiver start i k inputs gains old now paired le lt u =
    by (at now i) (at old i) _ _ _ _ (u.left i lt) (turn_none receiver (start + i) k inputs (drop k gains) le)
    (turned receiver (start + i) inputs gains paired)
  where
    by : (n o l t s h : ℤ) → n +ℤ l ≡ o +ℤ t → l ≡ pos 0 → t +ℤ s ≡ h → n +ℤ s ≡ o +ℤ h
    by n o l t s h e1 e2 e3 = omega (arith, ints)

-- 64 inputs at most raise the sums so far
pub underway_end : (rest : ℕ → ℕ → ℤ) (old now : List ℤ) (k : ℕ) → length now ≡ length old → k ≤ 64
    → Underway 0 rest old now k → AreSmall 16777216 now
underway_end rest old now k long few u = record { small = λ i lt. by i (u.small i (subst (λ (n : ℕ). i < n) long lt)) }
  where
    by : (i : ℕ) → IsWithin (0 + 262144 * k) (at now i) → IsWithin 16777216 (at now i)
    by i h = record { low = omega (arith, ints); high = omega (arith, ints) }

-- ---- a total

sum_within : (i n : ℕ) (inputs : List Input)
    → ((k : ℕ) (d : Input) → k < length inputs → IsWithin 32768 (sample_at (get_or inputs k d) i)) → length inputs ≤ n
    → IsWithin (32768 * n) (sample_sum i inputs)
sum_within i n [] each few = record { low = omega (arith, ints); high = omega (arith, ints) }
sum_within i zero (input ∷ inputs) each few = absurd (omega (arith, few))
sum_within i (suc n) (input ∷ inputs) each few =
    next (sample_at input i) (sample_sum i inputs) (each 0 input (omega arith))
    (sum_within i n inputs (λ k d lt. each (suc k) d (omega arith)) (omega arith))
  where
    next : (s t : ℤ) → IsWithin 32768 s → IsWithin (32768 * n) t → IsWithin (32768 * suc n) (s +ℤ t)
    next s t a b = record { low = omega (arith, ints); high = omega (arith, ints) }

-- the total of 64 inputs at most is small
pub total_small : (inputs : List Input) (total : List ℤ)
    → ((k : ℕ) (d : Input) (i : ℕ) → k < length inputs → IsWithin 32768 (sample_at (get_or inputs k d) i))
    → length inputs ≤ 64 → IsTotal inputs total → AreSmall 16777216 total
total_small inputs total each few is =
    record {
      small = λ i lt.
          by (sample_sum i inputs) (sum_within i 64 inputs (λ k d below. each k d i below) few) (at total i) (is i lt);
    }
  where
    by : (s : ℤ) → IsWithin (32768 * 64) s → (t : ℤ) → t ≡ s → IsWithin 16777216 t
    by s h t e = record { low = omega (arith, ints); high = omega (arith, ints) }
