use Rattle.std.proofs.Common.{◌≡◌, length}
use Rattle.x_bench.proofs.feeding.push_shares.Given as goal

abbrev pub invariant-loop-lane : goal.invariant-loop-lane
invariant-loop-lane g l = length l.bridge ≡ length l.initial.bridge
