use Rattle.std.specs.Prelude.{◌≡◌}
use Rattle.desk_rows.specs.laws.Words.{length, have_same_keys}
use Rattle.reversible_rows.proofs.judging.lists.have_same_keys.Given as goal

abbrev pub invariant-loop-row : goal.invariant-loop-row
invariant-loop-row l = have_same_keys l.fn.rows l.fn.others ≡ have_same_keys l.rest l.left

abbrev pub decreases-loop-row : goal.decreases-loop-row
decreases-loop-row l = length l.rest
