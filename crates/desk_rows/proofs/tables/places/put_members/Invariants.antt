use Rattle.std.specs.Prelude.{◌≡◌, ◌+◌, ◌≤◌}
use Rattle.desk_rows.specs.laws.Words.{true, length, vec_len, vec_capacity, put_at, can_put}
use Rattle.desk_rows.proofs.tables.places.put_members.Given as goal

abbrev pub invariant-loop-first : goal.invariant-loop-first
invariant-loop-first g l = record {
  so_far : put_at l.fn.placed l.fn.members.items ≡ put_at l.rest l.members.items;
  can : can_put l.rest l.members.items ≡ true;
  fits : vec_len l.members + length l.rest ≤ vec_capacity l.members;
  capacity : vec_capacity l.fn.members ≤ vec_capacity l.members;
}

abbrev pub decreases-loop-first : goal.decreases-loop-first
decreases-loop-first g l = length l.rest
