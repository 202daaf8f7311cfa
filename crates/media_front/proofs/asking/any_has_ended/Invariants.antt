use Rattle.std.proofs.Common.{◌<◌, ℕ, false}
use Rattle.media_front.proofs.asking.any_has_ended.Given as goal

-- each lane that was asked so far answered no
abbrev pub invariant-loop-lane : goal.invariant-loop-lane
invariant-loop-lane g l = (lane : ℕ) → lane < l.lane → g.L.AskedLanes.answered l.fn.lanes lane false
