use Rattle.std.proofs.Common.{◌≡◌, ◌≤◌, None, length}
use Rattle.x_tests_desk.proofs.running.publish_all.Given as goal

abbrev pub invariant-loop : goal.invariant-loop
invariant-loop g l = (l.publisher.staged ≡ None) × (length l.publisher.lists ≤ l.counter)
