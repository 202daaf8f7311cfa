-- The entry stands at the place or behind it.
use Rattle.std.specs.Prelude.{◌≤◌, ◌-◌}
use Rattle.desk_rows.specs.laws.Words.{length, drop, count_by, same_row}
use Rattle.desk_rows.proofs.tables.following.find_entry.Given as goal

abbrev pub invariant-loop-place : goal.invariant-loop-place
invariant-loop-place g l =
    1 ≤ count_by (λ x. same_row (g.T.Grouped.as_row x) (g.T.Grouped.as_row l.one)) (drop l.place l.table)

abbrev pub decreases-loop-place : goal.decreases-loop-place
decreases-loop-place g l = length l.table - l.place
