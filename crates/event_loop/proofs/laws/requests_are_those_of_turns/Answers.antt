use Rattle.event_loop.proofs.AskingLemmas.{requests_by_all}
use Rattle.event_loop.proofs.laws.requests_are_those_of_turns.Goals as goal

pub returns : goal.returns
returns g c turns old new done = requests_by_all turns old new done
