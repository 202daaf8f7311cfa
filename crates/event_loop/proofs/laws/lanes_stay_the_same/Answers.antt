use Rattle.event_loop.proofs.LaneLemmas.{lanes_by_all, asker_by_all}
use Rattle.event_loop.proofs.laws.lanes_stay_the_same.Goals as goal

pub returns-clause-lanes : goal.returns-clause-lanes
returns-clause-lanes g c turns old new done = lanes_by_all turns old new done

pub returns-clause-asker : goal.returns-clause-asker
returns-clause-asker g c turns old new done = asker_by_all turns old new done
