-- What is listed, and what the calls that are left still tell, make the whole.
use Rattle.std.specs.Prelude.{◌≡◌, ◌≤◌, ◌-◌, ◌++◌, [], length, take, reverse}
use Rattle.call_history.specs.Lists.{standing}
use Rattle.call_history.proofs.lists.newest_in_force.Given as goal

abbrev pub invariant-loop-left : goal.invariant-loop-left
invariant-loop-left g l = record {
  within : l.left ≤ length l.fn.done;
  few : length l.calls.items ≤ l.fn.most;
  whole : l.calls.items
      ++ take (l.fn.most - length l.calls.items) (standing l.struck.items (reverse (take l.left l.fn.done)))
      ≡ take l.fn.most (standing [] (reverse l.fn.done));
}

abbrev pub decreases-loop-left : goal.decreases-loop-left
decreases-loop-left g l = l.left
