use Rattle.std.specs.Prelude.{◌≡◌, ◌≤◌, ◌-◌}
use Rattle.desk_rows.specs.laws.Words.{length, drop}
use Rattle.desk_revert.proofs.differing.same_back.Given as goal

abbrev pub invariant-loop-count : goal.invariant-loop-count
invariant-loop-count l = record {
  before : l.count ≤ length l.before;
  behind : l.count ≤ length l.behind;
  same : drop (length l.before - l.count) l.before ≡ drop (length l.behind - l.count) l.behind;
}

abbrev pub decreases-loop-count : goal.decreases-loop-count
decreases-loop-count l = length l.before - l.count
