-- A marker is early among all exactly if it is among those that are left.
use Rattle.std.proofs.Common.{◌≡◌, length}
use Rattle.frame_gate.specs.Frame.{marker_is_early}
use Rattle.frame_gate.proofs.frame.marker_is_early.Given as goal

abbrev pub invariant-loop-packet : goal.invariant-loop-packet
invariant-loop-packet g l = marker_is_early l.fn.packets ≡ marker_is_early l.rest

abbrev pub decreases-loop-packet : goal.decreases-loop-packet
decreases-loop-packet g l = length l.rest
