-- What was found and what is left to be gone through make the whole.
use Rattle.std.specs.Prelude.{◌≡◌, ◌+◌, ◌++◌}
use Rattle.desk_rows.specs.laws.Words.{true, length, in_order, without_rows}
use Rattle.desk_revert.proofs.differing.apart.Given as goal

abbrev pub invariant-loop-old : goal.invariant-loop-old
invariant-loop-old g l = record {
  gone : l.gone.items ++ without_rows l.news l.olds ≡ without_rows l.fn.behind l.fn.before;
  come : l.come.items ++ without_rows l.olds l.news ≡ without_rows l.fn.before l.fn.behind;
  before : in_order l.olds ≡ true;
  behind : in_order l.news ≡ true;
}

abbrev pub decreases-loop-old : goal.decreases-loop-old
decreases-loop-old g l = length l.olds + length l.news
