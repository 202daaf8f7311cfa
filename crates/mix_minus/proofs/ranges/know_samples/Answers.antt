use Rattle.std.proofs.Common.{ℕ, ◌<◌, ◌≤◌, List, ℤ, length, pos, inl, inr, arith, rules, sym, subst}
use mir.Val.{SFits}
use mir.Syntax.{w16}
use borrow.Author.Count.{below_none, below_more}
use Rattle.std.proofs.lemmas.Bool.{cases_lt}
use Rattle.std.proofs.lemmas.Int.{ints}
use Rattle.std.proofs.lemmas.List.{get_or_past}
use Rattle.mix_minus.specs.Sums.{at, IsWithin}
use Rattle.mix_minus.proofs.ranges.know_samples.Goals as goal

within : (s : ℤ) → SFits w16 s → IsWithin 32768 s
within s h = record { low = omega (arith, ints); high = omega (arith, ints) }

-- behind the end each is 0
everywhere : (xs : List ℤ) (n : ℕ) → length xs ≤ n → ((k : ℕ) → k < n → IsWithin 32768 (at xs k)) → (i : ℕ)
    → IsWithin 32768 (at xs i)
everywhere xs n le each i = elim (cases_lt i n) [
  | inl lt ↦ each i lt
  | inr more ↦
      subst (IsWithin 32768) (sym (get_or_past xs i (pos 0) (omega arith)))
      (record { low = omega (arith, ints); high = omega (arith, ints) })
]

pub loop-i-init : goal.loop-i-init
loop-i-init c = below_none (λ k. IsWithin 32768 (at c.args.samples.now k))

pub loop-i-preserved : goal.loop-i-preserved
loop-i-preserved c =
    let fits : SFits w16 (at c.args.samples.now c.loop-i.i) = search rules in
    below_more (λ k. IsWithin 32768 (at c.args.samples.now k)) c.loop-i.i c.loop-i.invariant
    (within (at c.args.samples.now c.loop-i.i) fits)

pub returns : goal.returns
returns c = everywhere c.args.samples.now c.loop-i.i (omega arith) c.loop-i.invariant
