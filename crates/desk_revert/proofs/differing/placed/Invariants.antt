-- What is listed, and what would be of those that are left, make the whole.
use Rattle.std.specs.Prelude.{◌≡◌, ◌+◌, ◌++◌}
use Rattle.desk_rows.specs.laws.Words.{length}
use Rattle.desk_revert.specs.Spans.{placed_from}
use Rattle.desk_revert.proofs.differing.placed.Given as goal

abbrev pub invariant-loop-member : goal.invariant-loop-member
invariant-loop-member g l = record {
  so_far : l.list.items ++ placed_from l.place l.rest ≡ placed_from l.first l.members;
  end : l.place + length l.rest ≡ l.first + length l.members;
}

abbrev pub decreases-loop-member : goal.decreases-loop-member
decreases-loop-member g l = length l.rest
