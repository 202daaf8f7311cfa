use Rattle.std.proofs.Common.{◌≡◌, ◌≤◌, length, All, vec_capacity}
use Rattle.media_front.specs.declared.lane_status.LaneStatus.{LaneStatus}
use Rattle.media_front.specs.inner.Statuses.{fresh_status}
use Rattle.media_front.proofs.starting.statuses_for.Given as goal

abbrev pub invariant-loop : goal.invariant-loop
invariant-loop l = record {
  many : length l.statuses.items ≡ l.counter;
  capacity : l.count ≤ vec_capacity l.statuses;
  count : l.count ≡ l.fn.count;
  fresh : All (λ (status : LaneStatus). status ≡ fresh_status) l.statuses.items;
}
