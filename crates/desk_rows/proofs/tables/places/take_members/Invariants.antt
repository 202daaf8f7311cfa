use Rattle.std.specs.Prelude.{◌≡◌, ◌≤◌}
use Rattle.desk_rows.specs.laws.Words.{true, length, vec_capacity, take_at, can_take}
use Rattle.desk_rows.proofs.tables.places.take_members.Given as goal

abbrev pub invariant-loop-last : goal.invariant-loop-last
invariant-loop-last g l = record {
  so_far : take_at l.fn.placed l.fn.members.items ≡ take_at l.rest l.members.items;
  can : can_take l.rest l.members.items ≡ true;
  capacity : vec_capacity l.fn.members ≤ vec_capacity l.members;
}

abbrev pub decreases-loop-last : goal.decreases-loop-last
decreases-loop-last g l = length l.rest
