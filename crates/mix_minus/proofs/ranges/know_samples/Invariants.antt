use Rattle.std.proofs.Common.{ℕ, ◌<◌}
use Rattle.mix_minus.specs.Sums.{at, IsWithin}
use Rattle.mix_minus.proofs.ranges.know_samples.Given as goal

abbrev pub invariant-loop-i : goal.invariant-loop-i
invariant-loop-i l = (k : ℕ) → k < l.i → IsWithin 32768 (at l.samples k)
