use Rattle.topology.proofs.SmallRooms.{gain_small}
use Rattle.topology.proofs.laws.gains_are_small.Goals as goal

pub returns : goal.returns
returns c desk member source h = gain_small desk member source h
