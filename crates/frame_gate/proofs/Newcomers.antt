-- A packet that has just come, and then lies in its cell.
use Rattle.std.proofs.Common.{◌≡◌, ℕ, zero, suc, ◌+◌, ◌%◌, ◌<◌, ◌≤◌, true, false, cond, nat_eq, List, [], ◌∷◌, ◌++◌}
use Rattle.std.proofs.Common.{length, set, get_or, Option, None, Some, refl, sym, ap, ◌∙◌, arith, ◌⊎◌, inl, inr}
use Rattle.std.proofs.Common.{get_or-set_same, get_or-set_other, ◌≢◌, replicate}
use Rattle.std.specs.Option.{option_or}
use Rattle.std.proofs.lemmas.Bool.Decides.{nat_tests}
use Rattle.frame_gate.specs.Packets.{NumberedPacket}
use Rattle.frame_gate.specs.inner.Cells.{held, of_number, cell, ArePlaced}
use Rattle.frame_gate.specs.Epochs.{packet_at}
use Rattle.frame_gate.proofs.Taken.{found-push, none-push}

pub eq_cases : (m n : ℕ) → (m ≡ n) ⊎ (m ≢ n)
eq_cases m n = elim (nat_eq m n) as (λ b. nat_eq m n ≡ b → (m ≡ n) ⊎ (m ≢ n)) [
  | true ↦ λ is. (let e : m ≡ n = grind (arith, nat_tests) in inl e)
  | false ↦ λ is.
      inr (λ same. (let e : nat_eq m n ≡ true = grind (arith, nat_tests) in let x : false ≡ true = sym is ∙ e in cc))
] refl

eq_yes : (m n : ℕ) → m ≡ n → nat_eq m n ≡ true
eq_yes m n h = grind (arith, nat_tests)

eq_no : (m n : ℕ) → m ≢ n → nat_eq m n ≡ false
eq_no m n h = grind (arith, nat_tests)

-- another number's packet is what it was
other-push : (ps : List NumberedPacket) (p : NumberedPacket) (k : ℕ) → p.number ≢ k
    → packet_at ps k ≡ packet_at (ps ++ p ∷ []) k
other-push ps p k other = by (packet_at ps k) refl
  where
    by : (o : Option NumberedPacket) → packet_at ps k ≡ o → packet_at ps k ≡ packet_at (ps ++ p ∷ []) k
    by None h = h ∙ sym (none-push ps p k h ∙ ap (λ b. cond b (Some p) None) (eq_no p.number k other))
    by (Some q) h = h ∙ sym (found-push ps p k q h)

-- this number's packet is the new one
this-push : (ps : List NumberedPacket) (p : NumberedPacket) (k : ℕ) → p.number ≡ k → packet_at ps k ≡ None
    → packet_at (ps ++ p ∷ []) k ≡ Some p
this-push ps p k same none = none-push ps p k none ∙ ap (λ b. cond b (Some p) None) (eq_yes p.number k same)

-- what is held with the newcomer is what was taken with it
pub newcomer : (cells : List (Option NumberedPacket)) (ps : List NumberedPacket) (p : NumberedPacket) (k : ℕ)
    → packet_at ps p.number ≡ None → held cells None k ≡ packet_at ps k
    → held cells (Some p) k ≡ packet_at (ps ++ p ∷ []) k
newcomer cells ps p k none agrees = elim (eq_cases p.number k) [
  | inl same ↦
      ap (λ b. option_or (cond b (Some p) None) (held cells None k)) (eq_yes p.number k same)
      ∙ sym (this-push ps p k same (ap (packet_at ps) (sym same) ∙ none))
  | inr other ↦
      ap (λ b. option_or (cond b (Some p) None) (held cells None k)) (eq_no p.number k other)
      ∙ agrees
      ∙ other-push ps p k other
]

-- and so it is when the packet lies in its cell
pub kept : (cells : List (Option NumberedPacket)) (ps : List NumberedPacket) (p : NumberedPacket) (next k : ℕ)
    → length cells ≡ 256
    → next ≤ p.number → p.number < next + 256 → next ≤ k
    → packet_at ps p.number ≡ None → held cells None k ≡ packet_at ps k
    → ((n : ℕ) → next + 256 ≤ n → packet_at ps n ≡ None)
    → held (set cells (p.number % 256) (Some p)) None k ≡ packet_at (ps ++ p ∷ []) k
kept cells ps p next k long above below from none agrees behind = elim (eq_cases (k % 256) (p.number % 256)) [
  | inl cell ↦
      let lt : p.number % 256 < length cells = omega arith in
      let there : get_or (set cells (p.number % 256) (Some p)) (k % 256) None ≡ Some p =
      ap (λ i. get_or (set cells (p.number % 256) (Some p)) i None) cell
      ∙ get_or-set_same cells (p.number % 256) (Some p) None lt in
      ap (λ o. of_number o k) there
      ∙ (elim (eq_cases p.number k) [
        | inl same ↦
            ap (λ b. cond b (Some p) None) (eq_yes p.number k same)
            ∙ sym (this-push ps p k same (ap (packet_at ps) (sym same) ∙ none))
        | inr other ↦
            let far : next + 256 ≤ k = apart p.number k next above below from other (sym cell) in
            ap (λ b. cond b (Some p) None) (eq_no p.number k other) ∙ sym (behind k far) ∙ other-push ps p k other
      ])
  | inr cell ↦
      ap (λ o. of_number o k) (get_or-set_other cells (p.number % 256) (k % 256) (Some p) None cell)
      ∙ agrees
      ∙ other-push ps p k (λ same. cell (sym (ap (λ n. n % 256) same)))
]
  where
    apart : (n k next : ℕ) → next ≤ n → n < next + 256 → next ≤ k → n ≢ k → n % 256 ≡ k % 256 → next + 256 ≤ k
    apart n k next above below from other same = omega arith

abbrev nothing : ℕ → List (Option NumberedPacket)
nothing m = replicate m None

get_or-nothing : (m i : ℕ) → get_or (nothing m) i None ≡ None
get_or-nothing zero i = refl
get_or-nothing (suc m) zero = refl
get_or-nothing (suc m) (suc i) = get_or-nothing m i

pub nothing_there : (m : ℕ) (cells : List (Option NumberedPacket)) (i : ℕ) → cells ≡ replicate m None
    → get_or cells i None ≡ None
nothing_there m cells i h = ap (λ (cs : List (Option NumberedPacket)). get_or cs i None) h ∙ get_or-nothing m i

some_is : (p q : NumberedPacket) → Some p ≡ Some q → p ≡ q
some_is p q h = cc

-- with one more packet in its cell
pub placed-set : (cells : List (Option NumberedPacket)) (p : NumberedPacket) → length cells ≡ 256 → ArePlaced cells
    → ArePlaced (set cells (p.number % 256) (Some p))
placed-set cells p long h i q is = elim (eq_cases i (p.number % 256)) [
  | inl same ↦
      let lt : p.number % 256 < length cells = omega arith in
      let there : Some p ≡ Some q =
      sym (get_or-set_same cells (p.number % 256) (Some p) None lt)
      ∙ ap (λ j. get_or (set cells (p.number % 256) (Some p)) j None) (sym same)
      ∙ is in
      ap (λ (r : NumberedPacket). r.number % 256) (sym (some_is p q there)) ∙ sym same
  | inr other ↦ h i q (sym (get_or-set_other cells (p.number % 256) i (Some p) None other) ∙ is)
]

pub from-set : (cells : List (Option NumberedPacket)) (p : NumberedPacket) (from : ℕ) → length cells ≡ 256
    → from ≤ p.number
    → ((i : ℕ) (q : NumberedPacket) → cell cells i ≡ Some q → from ≤ q.number)
    → (i : ℕ) (q : NumberedPacket) → cell (set cells (p.number % 256) (Some p)) i ≡ Some q → from ≤ q.number
from-set cells p from long le h i q is = elim (eq_cases i (p.number % 256)) [
  | inl same ↦
      let lt : p.number % 256 < length cells = omega arith in
      let there : Some p ≡ Some q =
      sym (get_or-set_same cells (p.number % 256) (Some p) None lt)
      ∙ ap (λ j. get_or (set cells (p.number % 256) (Some p)) j None) (sym same)
      ∙ is in
      let number : p.number ≡ q.number = ap (λ (r : NumberedPacket). r.number) (some_is p q there) in
      omega arith
  | inr other ↦ h i q (sym (get_or-set_other cells (p.number % 256) i (Some p) None other) ∙ is)
]
