use Rattle.std.proofs.Common.{◌≡◌, length}
use Rattle.x_bench.proofs.batches.feed_batches.Given as goal

abbrev pub invariant-loop-batch : goal.invariant-loop-batch
invariant-loop-batch g l = length l.bridge ≡ length l.initial.bridge
