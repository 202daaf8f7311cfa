use Rattle.std.proofs.Common.{◌≡◌, ◌≤◌, length, vec_capacity}
use Rattle.media_front.proofs.starting.signals_for.Given as goal

abbrev pub invariant-loop : goal.invariant-loop
invariant-loop l = record {
  many : length l.signals.items ≡ l.counter;
  capacity : l.count ≤ vec_capacity l.signals;
  count : l.count ≡ l.fn.count;
}
