use Rattle.std.proofs.Common.{◌≡◌}
use Rattle.retransmit.specs.Window.{window_size, latest}
use Rattle.worked_media.specs.Sent.{packets}
use Rattle.worked_media.proofs.resends.window_after.Given as goal

abbrev pub invariant-loop-i : goal.invariant-loop-i
invariant-loop-i l = l.window ≡ latest window_size (packets l.fn.first l.i)
