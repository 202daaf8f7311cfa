use Rattle.std.proofs.Common.{◌≡◌, length}
use Rattle.x_bench.proofs.feeding.step_lanes.Given as goal

abbrev pub invariant-loop-place : goal.invariant-loop-place
invariant-loop-place g l = length l.bridge ≡ length l.initial.bridge
