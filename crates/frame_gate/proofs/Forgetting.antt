-- Cells that let go of what is decided.
use Rattle.std.proofs.Common.{◌≡◌, ℕ, ◌+◌, ◌-◌, ◌%◌, ◌<◌, ◌≤◌, Bool, true, false, cond, nat_eq, nat_lt, min, List}
use Rattle.std.proofs.Common.{Option, None, Some, refl, sym, ap, ◌∙◌, arith, ◌⊎◌, inl, inr}
use Rattle.std.proofs.lemmas.Bool.{cases_lt}
use Rattle.std.proofs.lemmas.Bool.Decides.{nat_tests}
use Rattle.frame_gate.specs.Packets.{NumberedPacket}
use Rattle.frame_gate.specs.Frame.{WholeFrame}
use Rattle.frame_gate.specs.declared.walk.Walk.{Walk}
use Rattle.frame_gate.specs.Epochs.{Epoch}
use Rattle.frame_gate.specs.inner.Cells.{cell, from_on, of_number, held, ArePlaced, MayForget, Forgets}
use Rattle.frame_gate.specs.inner.Ties.{Tied}
use Rattle.frame_gate.proofs.Takes.{stands-alike}

from_on-again : (to : ℕ) (o : Option NumberedPacket) → from_on to (from_on to o) ≡ from_on to o
from_on-again to None = refl
from_on-again to (Some p) =
    elim (nat_lt p.number to)
    as (λ b. nat_lt p.number to ≡ b → from_on to (cond b None (Some p)) ≡ cond b None (Some p)) [
      | true ↦ λ is. refl
      | false ↦ λ is. ap (λ b. cond b None (Some p)) is
    ] refl

-- what was there, or what is left of it from a number on
pub or_from_on : (to : ℕ) (a b c : Option NumberedPacket) → (b ≡ a) ⊎ (b ≡ from_on to a) → (c ≡ b) ⊎ (c ≡ from_on to b)
    → (c ≡ a) ⊎ (c ≡ from_on to a)
or_from_on to a b c (inl h) (inl k) = inl (k ∙ h)
or_from_on to a b c (inl h) (inr k) = inr (k ∙ ap (from_on to) h)
or_from_on to a b c (inr h) (inl k) = inr (k ∙ h)
or_from_on to a b c (inr h) (inr k) = inr (k ∙ ap (from_on to) h ∙ from_on-again to a)

pub gone_or : (to : ℕ) (a b c : Option NumberedPacket) → (b ≡ a) ⊎ (b ≡ from_on to a) → c ≡ from_on to b
    → c ≡ from_on to a
gone_or to a b c (inl h) k = k ∙ ap (from_on to) h
gone_or to a b c (inr h) k = k ∙ ap (from_on to) h ∙ from_on-again to a

-- what is left of it is from the number on, and was there
from_on-some : (to : ℕ) (o : Option NumberedPacket) (p : NumberedPacket) → from_on to o ≡ Some p
    → (o ≡ Some p) × (to ≤ p.number)
from_on-some to None p h = absurd (cc)
from_on-some to (Some q) p h = by (nat_lt q.number to) refl h
  where
    by : (b : Bool) → nat_lt q.number to ≡ b → cond b None (Some q) ≡ Some p → (Some q ≡ Some p) × (to ≤ p.number)
    by true is k = absurd (cc)
    by false is k =
        let same : q ≡ p = cc in
        let le : to ≤ q.number = grind (arith, nat_tests) in
        (k, (let e : q.number ≡ p.number = ap (λ (r : NumberedPacket). r.number) same in omega arith))

-- above the number nothing is gone
of_number-kept : (to n : ℕ) (o : Option NumberedPacket) → to ≤ n → of_number (from_on to o) n ≡ of_number o n
of_number-kept to n None h = refl
of_number-kept to n (Some p) h = by (nat_lt p.number to) refl
  where
    by : (b : Bool) → nat_lt p.number to ≡ b
        → of_number (cond b None (Some p)) n ≡ cond (nat_eq p.number n) (Some p) None
    by true is =
        (let e : nat_eq p.number n ≡ false = grind (arith, nat_tests) in sym (ap (λ b. cond b (Some p) None) e))
    by false is = refl

pub held-kept : (to : ℕ) (old new : List (Option NumberedPacket)) (n : ℕ) → MayForget to old new → to ≤ n
    → held old None n ≡ held new None n
held-kept to old new n h le = elim (h (n % 256)) [
  | inl same ↦ ap (λ o. of_number o n) (sym same)
  | inr left ↦ sym (ap (λ o. of_number o n) left ∙ of_number-kept to n (cell old (n % 256)) le)
]

pub tied-alike : (f g : ℕ → Option NumberedPacket) (given : List WholeFrame) (e : Epoch) (w : Walk)
    (out : List WholeFrame)
    → ((n : ℕ) → w.next ≤ n → f n ≡ g n) → Tied f given e w out → Tied g given e w out
tied-alike f g given e w out alike h = record {
  stands = stands-alike f g e.cut given e.earlier _ w out (λ k q le found. sym (alike k le) ∙ found) h.stands;
  agrees = λ n le. sym (alike n le) ∙ h.agrees n le;
  behind = h.behind;
}

-- what is left was there
pub left_over : (to : ℕ) (old new : List (Option NumberedPacket)) (i : ℕ) (p : NumberedPacket) → MayForget to old new
    → cell new i ≡ Some p → cell old i ≡ Some p
left_over to old new i p h is = elim (h i) [
  | inl same ↦ sym same ∙ is
  | inr left ↦ (from_on-some to (cell old i) p (sym left ∙ is)).0
]

-- and is from the number on
pub left_from : (from to : ℕ) (old new : List (Option NumberedPacket)) → MayForget to old new → Forgets from to old new
    → ArePlaced old
    → ((i : ℕ) (p : NumberedPacket) → cell old i ≡ Some p → from ≤ p.number)
    → (i : ℕ) (p : NumberedPacket) → cell new i ≡ Some p → to ≤ p.number
left_from from to old new may gone placed low i p is = elim (cases_lt p.number to) [
  | inl under ↦
      let was : cell old i ≡ Some p = left_over to old new i p may is in
      let at_least : from ≤ p.number = low i p was in
      let here : p.number % 256 ≡ i = placed i p was in
      let k = (p.number - from) % 256 in
      let there : (from + k) % 256 ≡ i = omega arith in
      let near : k < min (to - from) 256 = omega arith in
      let left : cell new i ≡ from_on to (cell old i) =
      ap (cell new) (sym there) ∙ gone k near ∙ ap (λ j. from_on to (cell old j)) there in
      (from_on-some to (cell old i) p (sym left ∙ is)).1
  | inr over ↦ over
]

-- a packet lies in its cell
pub held-placed : (cells : List (Option NumberedPacket)) (i : ℕ) (p : NumberedPacket) → ArePlaced cells
    → cell cells i ≡ Some p → held cells None p.number ≡ Some p
held-placed cells i p placed is =
    let same : nat_eq p.number p.number ≡ true = grind (arith, nat_tests) in
    ap (λ j. of_number (cell cells j) p.number) (placed i p is)
    ∙ ap (λ o. of_number o p.number) is
    ∙ ap (λ b. cond b (Some p) None) same
