use Rattle.std.specs.Prelude.{length}
use Rattle.desk_groups.specs.Making.{lists_of}
use Rattle.desk_groups.specs.inner.Cutting.{SoFar}
use Rattle.desk_groups.proofs.grouping.grouped.Given as goal

abbrev pub invariant-loop-rest : goal.invariant-loop-rest
invariant-loop-rest g l = SoFar l.fn.commands (lists_of l.groups.items) l.rest

abbrev pub decreases-loop-rest : goal.decreases-loop-rest
decreases-loop-rest g l = length l.rest
