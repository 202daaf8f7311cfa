-- What is left to walk past makes the whole with what was counted, and what stays is the same.
use Rattle.std.specs.Prelude.{◌≡◌, ◌≤◌, ◌+◌, length, reverse}
use Rattle.std.specs.List.{sum_by}
use Rattle.desk_edit.specs.InForce.{walked, stay}
use Rattle.desk_edit.specs.Reverts.{revert_limit}
use Rattle.desk_calls.proofs.RevertLemmas.{counts}
use Rattle.desk_calls.proofs.walking.walked_back.Given as goal

abbrev pub invariant-loop-entry : goal.invariant-loop-entry
invariant-loop-entry g l = record {
  sum : l.count + sum_by (counts l.fn.number) (walked l.low (reverse l.rest))
      ≡ sum_by (counts l.fn.number) (walked l.fn.number (reverse l.fn.entries));
  same : stay l.low (reverse l.rest) ≡ stay l.fn.number (reverse l.fn.entries);
  few : l.count ≤ revert_limit;
}

abbrev pub decreases-loop-entry : goal.decreases-loop-entry
decreases-loop-entry g l = length l.rest
