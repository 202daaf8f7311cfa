-- What is there and the members that are left make the whole, in the capacity that there was.
use Rattle.std.specs.Prelude.{◌≡◌, ◌+◌, ◌≤◌, ◌++◌}
use Rattle.desk_rows.specs.laws.Words.{length, vec_len, vec_capacity, entries_from}
use Rattle.desk_rows.proofs.tables.index.list_places.Given as goal

abbrev pub invariant-loop-member : goal.invariant-loop-member
invariant-loop-member g l = record {
  so_far : l.index.items ++ entries_from (length l.index.items) l.rest ≡ entries_from 0 l.members;
  fits : vec_len l.index + length l.rest ≤ vec_capacity l.index;
  capacity : vec_capacity l.fn.index ≤ vec_capacity l.index;
}

abbrev pub decreases-loop-member : goal.decreases-loop-member
decreases-loop-member g l = length l.rest
