use Rattle.std.specs.Prelude.{◌≡◌}
use Rattle.desk_rows.specs.laws.Words.{length, in_order}
use Rattle.desk_rows.proofs.ordering.are_in_order.Given as goal

abbrev pub invariant-loop-row : goal.invariant-loop-row
invariant-loop-row l = in_order l.fn.rows ≡ in_order l.rest

abbrev pub decreases-loop-row : goal.decreases-loop-row
decreases-loop-row l = length l.rest
