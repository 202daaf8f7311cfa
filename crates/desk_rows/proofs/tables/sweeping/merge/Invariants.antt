use Rattle.std.specs.Prelude.{◌≡◌, ◌+◌, ◌≤◌, ◌++◌}
use Rattle.desk_rows.specs.laws.Words.{true, length, vec_len, vec_capacity, in_order, with_rows}
use Rattle.desk_rows.proofs.tables.sweeping.merge.Given as goal

abbrev pub invariant-loop-first : goal.invariant-loop-first
invariant-loop-first g l = record {
  so_far : l.out.items ++ with_rows l.left l.rest ≡ l.fn.out.items ++ with_rows l.fn.put l.fn.rows;
  rows : in_order l.rest ≡ true;
  order : in_order l.left ≡ true;
  fits : vec_len l.out + (length l.rest + length l.left) ≤ vec_capacity l.out;
  capacity : vec_capacity l.fn.out ≤ vec_capacity l.out;
}

abbrev pub decreases-loop-first : goal.decreases-loop-first
decreases-loop-first g l = length l.left
