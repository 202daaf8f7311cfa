use Rattle.std.specs.Prelude.{◌≡◌, ◌++◌, map, length}
use Rattle.desk_groups.specs.Making.{command_for}
use Rattle.desk_groups.specs.inner.Ranked.{kind_by_kind}
use Rattle.desk_groups.proofs.making.append_kinds.Given as goal

abbrev pub invariant-loop-kind : goal.invariant-loop-kind
invariant-loop-kind g l =
    l.commands.items ++ map command_for (kind_by_kind l.rest l.fn.rows)
    ≡ l.fn.commands.items ++ map command_for (kind_by_kind l.fn.kinds l.fn.rows)

abbrev pub decreases-loop-kind : goal.decreases-loop-kind
decreases-loop-kind g l = length l.rest
