use Rattle.bridge_core.proofs.BackAndAgain.{come_again}
use Rattle.bridge_core.proofs.laws.undos_are_redone.Goals as goal

pub returns : goal.returns
returns c first back last n replies later some undoes redoes =
    come_again first back last n replies later some undoes redoes
