use Rattle.frame_gate.proofs.DividedOnce.{whole_division}
use Rattle.frame_gate.proofs.laws.whole_division.Goals as goal

pub returns : goal.returns
returns c = whole_division
