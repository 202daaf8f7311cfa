use Rattle.topology.proofs.Reached.{receivers_distinct}
use Rattle.topology.proofs.laws.receivers_are_distinct.Goals as goal

pub returns : goal.returns
returns c desk source address h = receivers_distinct desk source address h
