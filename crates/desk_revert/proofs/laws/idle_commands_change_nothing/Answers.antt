use Rattle.desk_revert.proofs.Idle.{changes_nothing}
use Rattle.desk_revert.proofs.laws.idle_commands_change_nothing.Goals as goal

pub returns : goal.returns
returns c d command g idle = changes_nothing d command g idle
