use Rattle.std.proofs.Common.{◌≡◌, length}
use Rattle.x_bench.proofs.streaming.feed_stream.Given as goal

abbrev pub invariant-loop : goal.invariant-loop
invariant-loop g l =
    (goal.iterator-loop g).can_next l.iterator' × (goal.iterator-loop g).is_finite l.iterator'
    × (length l.bridge ≡ length l.initial.bridge)
