use Rattle.std.proofs.Common.{◌≡◌}
use Rattle.bridge_monitor.proofs.lane_counts.show_lanes.Given as goal

abbrev pub invariant-loop-lane : goal.invariant-loop-lane
invariant-loop-lane g l = l.media ≡ l.fn.media
