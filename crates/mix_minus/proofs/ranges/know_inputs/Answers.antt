use Rattle.std.proofs.Common.{◌≡◌, ℕ, zero, suc, ◌<◌, List, [], ◌∷◌, length, get_or, refl, subst, arith}
use borrow.Author.Count.{below_none, below_more}
use Rattle.mix_minus.specs.declared.input.Input.{Input}
use Rattle.mix_minus.specs.Mix.{sample_at}
use Rattle.mix_minus.specs.Sums.{IsWithin}
use Rattle.mix_minus.proofs.ranges.know_inputs.Goals as goal

-- an input that is there is the same whatever stands in for one that isn't
same_at : (xs : List Input) (k : ℕ) (d e : Input) → k < length xs → get_or xs k e ≡ get_or xs k d
same_at [] k d e lt = absurd (omega (arith, lt))
same_at (x ∷ xs) zero d e lt = refl
same_at (x ∷ xs) (suc k) d e lt = same_at xs k d e (omega (arith, lt))

pub loop-k-init : goal.loop-k-init
loop-k-init c = below_none (λ k. (d : Input) (i : ℕ) → IsWithin 32768 (sample_at (get_or c.args.inputs.now k d) i))

pub loop-k-preserved : goal.loop-k-preserved
loop-k-preserved c =
    let xs = c.args.inputs.now in
    below_more (λ k. (d : Input) (i : ℕ) → IsWithin 32768 (sample_at (get_or xs k d) i)) c.loop-k.k c.loop-k.invariant
    (λ d i.
    subst (λ (x : Input). IsWithin 32768 (sample_at x i)) (same_at xs c.loop-k.k d _ c.loop-k-test.true)
    (c.know_samples.ensures i))

pub returns : goal.returns
returns c k d i lt = c.loop-k.invariant k (omega (arith, lt)) d i
