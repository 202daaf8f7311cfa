use Rattle.std.specs.Prelude.{◌≡◌, ◌≤◌, ◌-◌}
use Rattle.desk_rows.specs.laws.Words.{length, take}
use Rattle.desk_revert.proofs.differing.same_front.Given as goal

abbrev pub invariant-loop-count : goal.invariant-loop-count
invariant-loop-count l = record {
  before : l.count ≤ length l.before;
  behind : l.count ≤ length l.behind;
  same : take l.count l.before ≡ take l.count l.behind;
}

abbrev pub decreases-loop-count : goal.decreases-loop-count
decreases-loop-count l = length l.before - l.count
