use Rattle.event_loop.proofs.CountLemmas.{counted_by_all}
use Rattle.event_loop.proofs.laws.all_that_is_taken_in_is_counted.Goals as goal

pub returns : goal.returns
returns g c turns old new done = counted_by_all turns old new done
