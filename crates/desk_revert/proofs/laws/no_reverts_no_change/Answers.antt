use Rattle.desk_edit.proofs.Forcing.{no_reverts, carried_on}
use Rattle.desk_revert.proofs.laws.no_reverts_no_change.Goals as goal

pub returns-clause-all : goal.returns-clause-all
returns-clause-all c done plain = no_reverts done plain

pub returns-clause-more : goal.returns-clause-more
returns-clause-more c start done own commands = carried_on start done own commands
