-- What is picked of the members so far, and what would be of those that are left, make the whole.
use Rattle.std.specs.Prelude.{◌≡◌, ◌-◌, ◌≤◌, ◌++◌}
use Rattle.desk_edit.proofs.Words.{length, placed_from, picks}
use Rattle.desk_edit.proofs.picking.members_picked.Given as goal

abbrev pub invariant-loop-member : goal.invariant-loop-member
invariant-loop-member g l = record {
  so_far : l.placed.items ++ placed_from (l.count - length l.rest) (picks l.fn.picked) l.rest
      ≡ placed_from 0 (picks l.fn.picked) l.fn.members;
  few : length l.rest ≤ l.count;
}

abbrev pub decreases-loop-member : goal.decreases-loop-member
decreases-loop-member g l = length l.rest
