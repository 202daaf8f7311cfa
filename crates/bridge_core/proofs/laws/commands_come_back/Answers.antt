use Rattle.bridge_core.proofs.BackAndAgain.{come_back, commands_come_again}
use Rattle.bridge_core.proofs.laws.commands_come_back.Goals as goal

pub returns-clause-back : goal.returns-clause-back
returns-clause-back c first middle last commands replies accepts undoes =
    come_back first middle last commands replies accepts undoes

pub returns-clause-again : goal.returns-clause-again
returns-clause-again c first middle back last commands replies later accepts undoes redoes =
    commands_come_again first middle back last commands replies later accepts undoes redoes
