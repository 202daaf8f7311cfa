-- The numbers rise if those that are left do.
use Rattle.std.proofs.Common.{◌≡◌, length}
use Rattle.frame_gate.specs.Frame.{rise_from}
use Rattle.frame_gate.proofs.frame.rise_from.Given as goal

abbrev pub invariant-loop-packet : goal.invariant-loop-packet
invariant-loop-packet g l = rise_from l.fn.before l.fn.packets ≡ rise_from l.before l.rest

abbrev pub decreases-loop-packet : goal.decreases-loop-packet
decreases-loop-packet g l = length l.rest
