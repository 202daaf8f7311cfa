use Rattle.std.specs.Prelude.{◌≡◌, ◌++◌, map, length}
use Rattle.desk_rows.specs.declared.row.Row.TheVariants.{Member}
use Rattle.desk_groups.specs.Making.{command_for}
use Rattle.desk_groups.proofs.making.append_members.Given as goal

abbrev pub invariant-loop-member : goal.invariant-loop-member
invariant-loop-member g l =
    l.commands.items ++ map command_for (map Member l.rest)
    ≡ l.fn.commands.items ++ map command_for (map Member l.fn.members)

abbrev pub decreases-loop-member : goal.decreases-loop-member
decreases-loop-member g l = length l.rest
