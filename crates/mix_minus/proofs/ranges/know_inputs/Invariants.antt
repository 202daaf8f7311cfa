use Rattle.std.proofs.Common.{ℕ, ◌<◌, get_or}
use Rattle.mix_minus.specs.declared.input.Input.{Input}
use Rattle.mix_minus.specs.Mix.{sample_at}
use Rattle.mix_minus.specs.Sums.{IsWithin}
use Rattle.mix_minus.proofs.ranges.know_inputs.Given as goal

abbrev pub invariant-loop-k : goal.invariant-loop-k
invariant-loop-k l = (k : ℕ) → k < l.k → (d : Input) (i : ℕ) → IsWithin 32768 (sample_at (get_or l.inputs k d) i)
