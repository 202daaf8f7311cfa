-- What is listed and what is in the rows that are left make the whole, in the capacity that there was.
use Rattle.std.specs.Prelude.{◌≡◌, ◌+◌, ◌≤◌, ◌++◌}
use Rattle.desk_rows.specs.laws.Words.{length, vec_len, vec_capacity, filter_map}
use Rattle.desk_rows.proofs.tables.following.list_anew.Given as goal

abbrev pub invariant-loop-row : goal.invariant-loop-row
invariant-loop-row g l = record {
  so_far : l.table.items ++ filter_map g.T.Grouped.in_row l.rest ≡ filter_map g.T.Grouped.in_row l.rows;
  fits : vec_len l.table + length l.rest ≤ vec_capacity l.table;
  capacity : vec_capacity l.fn.table ≤ vec_capacity l.table;
}

abbrev pub decreases-loop-row : goal.decreases-loop-row
decreases-loop-row g l = length l.rest
