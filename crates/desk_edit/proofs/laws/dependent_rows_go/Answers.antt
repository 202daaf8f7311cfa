use Rattle.desk_edit.proofs.laws.dependent_rows_go.Goals as goal
use Rattle.desk_edit.proofs.Dependence.{only_dependent, dependent_goes}

pub returns-clause-all : goal.returns-clause-all
returns-clause-all c d key r h = dependent_goes d key r h

pub returns-clause-only : goal.returns-clause-only
returns-clause-only c d key r h = only_dependent 3 d key r h
