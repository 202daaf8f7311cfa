use Rattle.std.proofs.Common.{◌≡◌, ◌++◌, map, take, drop}
use Rattle.media_front.specs.inner.Statuses.{owing}
use Rattle.media_front.proofs.lane_status.owe_all.Given as goal

abbrev pub invariant-loop-at : goal.invariant-loop-at
invariant-loop-at l =
    l.statuses ≡ map (owing l.fn.notice) (take l.at l.initial.statuses) ++ drop l.at l.initial.statuses
