use Rattle.topology.proofs.OneMix.{one_mix}
use Rattle.topology.proofs.laws.mixes_are_apart.Goals as goal

pub returns : goal.returns
returns c desk before m after h e = one_mix desk before m after h e
