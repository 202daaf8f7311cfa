-- The commands that are left lead on, and what stands in the way of them stands in the way of all.
use Rattle.std.specs.Prelude.{◌≡◌, ◌+◌, length, fold}
use Rattle.desk_edit.specs.Commands.{desk_after}
use Rattle.desk_edit.specs.AsIf.{first_in_the_way}
use Rattle.desk_revert.proofs.again.carry_out_again.Given as goal

abbrev pub invariant-loop-command : goal.invariant-loop-command
invariant-loop-command g l = record {
  count : l.part + length l.rest ≡ length l.fn.commands;
  to : fold desk_after l.rows l.rest ≡ fold desk_after l.fn.rows l.fn.commands;
  refused : first_in_the_way l.part l.rows l.rest ≡ first_in_the_way 0 l.fn.rows l.fn.commands;
}

abbrev pub decreases-loop-command : goal.decreases-loop-command
decreases-loop-command g l = length l.rest
