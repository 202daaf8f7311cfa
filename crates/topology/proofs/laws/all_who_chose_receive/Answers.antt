use Rattle.topology.proofs.Reached.{reached}
use Rattle.topology.proofs.laws.all_who_chose_receive.Goals as goal

pub returns : goal.returns
returns c desk source address out_ssrc h = reached desk source address out_ssrc h
