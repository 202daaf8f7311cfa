use Rattle.topology.proofs.OneMix.{own_room}
use Rattle.topology.proofs.laws.mixes_stay_in_the_room.Goals as goal

pub returns : goal.returns
returns c desk member h = own_room desk member h
