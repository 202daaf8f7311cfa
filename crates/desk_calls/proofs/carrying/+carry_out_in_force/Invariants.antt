-- It goes down the entries.
use Rattle.std.specs.Prelude.{length}
use Rattle.desk_calls.proofs.carrying.+carry_out_in_force.Given as goal

abbrev pub decreases-carry_out_in_force : goal.decreases-carry_out_in_force
decreases-carry_out_in_force g l = length l.entries.now
