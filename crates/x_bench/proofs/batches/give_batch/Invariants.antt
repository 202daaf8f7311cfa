use Rattle.std.proofs.Common.{◌≡◌, length}
use Rattle.x_bench.proofs.batches.give_batch.Given as goal

abbrev pub invariant-loop-more : goal.invariant-loop-more
invariant-loop-more g l = length l.bridge ≡ length l.initial.bridge
