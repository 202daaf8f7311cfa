use Rattle.topology.proofs.OneMix.{no_other_mix}
use Rattle.topology.proofs.laws.mixes_have_one_member.Goals as goal

pub returns : goal.returns
returns c desk before m after h e = no_other_mix desk before m after h e
