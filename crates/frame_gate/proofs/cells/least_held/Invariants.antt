use Rattle.std.proofs.Common.{◌≡◌, ℕ, ◌<◌, ◌≤◌, None}
use Rattle.frame_gate.specs.inner.Cells.{held}
use Rattle.frame_gate.proofs.cells.least_held.Given as goal

abbrev pub invariant-loop-n : goal.invariant-loop-n
invariant-loop-n g l = (k : ℕ) → l.fn.from ≤ k → k < l.n → held l.cells None k ≡ None
