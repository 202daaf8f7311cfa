use Rattle.std.proofs.Common.{◌≡◌, None, replicate, vec_len}
use Rattle.frame_gate.proofs.cells.empty_cells.Given as goal

abbrev pub invariant-loop : goal.invariant-loop
invariant-loop g l = record { len : vec_len l.cells ≡ l.counter; items : l.cells.items ≡ replicate l.counter None }
