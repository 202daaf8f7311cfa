use Rattle.bridge_core.proofs.BackAndAgain.{undos_accepted, redos_accepted}
use Rattle.bridge_core.proofs.laws.undos_and_redos_are_accepted.Goals as goal

pub returns-clause-undos : goal.returns-clause-undos
returns-clause-undos c first last n replies some undoes = undos_accepted first last n replies some undoes

pub returns-clause-redos : goal.returns-clause-redos
returns-clause-redos c first last n replies some redoes = redos_accepted first last n replies some redoes
