use Rattle.std.proofs.Common.{◌≡◌, ◌≤◌, vec_len, vec_capacity}
use Rattle.bridge_monitor.proofs.lane_counts.counts_for.Given as goal

abbrev pub invariant-loop : goal.invariant-loop
invariant-loop l = record {
  many : vec_len l.counts ≡ l.counter;
  capacity : l.count ≤ vec_capacity l.counts;
  count : l.count ≡ l.fn.count;
}
