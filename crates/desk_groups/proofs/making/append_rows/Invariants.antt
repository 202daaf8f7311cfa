use Rattle.std.specs.Prelude.{◌≡◌, ◌++◌, map, length}
use Rattle.desk_groups.specs.Making.{command_for}
use Rattle.desk_groups.proofs.making.append_rows.Given as goal

abbrev pub invariant-loop-row : goal.invariant-loop-row
invariant-loop-row g l =
    l.commands.items ++ map command_for l.rest ≡ l.fn.commands.items ++ map command_for l.fn.rows

abbrev pub decreases-loop-row : goal.decreases-loop-row
decreases-loop-row g l = length l.rest
