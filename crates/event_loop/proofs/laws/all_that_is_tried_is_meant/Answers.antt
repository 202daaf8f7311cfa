use Rattle.event_loop.proofs.MeantLemmas.{meant_by_all}
use Rattle.event_loop.proofs.laws.all_that_is_tried_is_meant.Goals as goal

pub returns : goal.returns
returns g c turns old new done = meant_by_all turns old new done
