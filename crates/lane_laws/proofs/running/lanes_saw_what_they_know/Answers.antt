use Rattle.lane_laws.proofs.Beginnings.{known_seen}
use Rattle.lane_laws.proofs.running.lanes_saw_what_they_know.Goals as goal

pub returns : goal.returns
returns g c ports ends ended lists known = known_seen lists g.P.Pace.answers g.S.Sink.taken ports ends ended known
