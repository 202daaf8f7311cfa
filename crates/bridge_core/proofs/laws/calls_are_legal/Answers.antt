use Rattle.bridge_core.proofs.WholeRunLaws.{calls_legal}
use Rattle.bridge_core.proofs.laws.calls_are_legal.Goals as goal

pub returns : goal.returns
returns c first last h events sent called plays = calls_legal first last h events sent called plays
