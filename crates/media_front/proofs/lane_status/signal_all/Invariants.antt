use Rattle.std.proofs.Common.{◌≡◌, ◌++◌, map, take, drop}
use Rattle.media_front.specs.inner.Statuses.{status_after_signal}
use Rattle.media_front.proofs.lane_status.signal_all.Given as goal

abbrev pub invariant-loop-at : goal.invariant-loop-at
invariant-loop-at g l =
    l.statuses ≡ map status_after_signal (take l.at l.initial.statuses) ++ drop l.at l.initial.statuses
