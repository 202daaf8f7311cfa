use Rattle.std.proofs.Common.{◌≡◌, ℕ, ◌<◌, ◌+◌, ◌%◌, length}
use Rattle.frame_gate.specs.inner.Cells.{cell, from_on, MayForget}
use Rattle.frame_gate.proofs.cells.forget_between.Given as goal

abbrev pub invariant-loop-k : goal.invariant-loop-k
invariant-loop-k g l = record {
  len : length l.cells ≡ 256;
  others : MayForget l.to l.fn.cells l.cells;
  gone : (j : ℕ) → j < l.k → cell l.cells ((l.from + j) % 256) ≡ from_on l.to (cell l.fn.cells ((l.from + j) % 256));
}
