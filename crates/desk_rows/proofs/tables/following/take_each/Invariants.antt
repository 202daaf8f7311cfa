-- The table is in order, it has what is left to take, and what was taken with what is left to take makes the whole.
use Rattle.std.specs.Prelude.{◌≡◌, ◌+◌, ◌≤◌}
use Rattle.desk_rows.specs.laws.Words.{Bool, true, length, vec_capacity, count_by, stand_by, in_turn, passes_in}
use Rattle.desk_rows.proofs.tables.following.take_each.Given as goal

abbrev pub invariant-loop-row : goal.invariant-loop-row
invariant-loop-row g l = record {
  order : stand_by (in_turn g.T.Grouped.group g.T.Grouped.turn) l.table.items ≡ true;
  there : (p : g.row.T.Denot → Bool) → count_by (passes_in g.T.Grouped.in_row p) l.rest ≤ count_by p l.table.items;
  taken : (p : g.row.T.Denot → Bool)
      → count_by p l.table.items + count_by (passes_in g.T.Grouped.in_row p) l.rows
      ≡ count_by p l.fn.table.items + count_by (passes_in g.T.Grouped.in_row p) l.rest;
  capacity : vec_capacity l.fn.table ≤ vec_capacity l.table;
}

abbrev pub decreases-loop-row : goal.decreases-loop-row
decreases-loop-row g l = length l.rest
