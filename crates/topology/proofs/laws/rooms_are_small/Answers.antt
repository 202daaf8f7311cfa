use Rattle.topology.proofs.SmallRooms.{room_small}
use Rattle.topology.proofs.laws.rooms_are_small.Goals as goal

pub returns : goal.returns
returns c desk room h = room_small desk room h
