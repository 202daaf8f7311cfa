use Rattle.event_loop.proofs.TurnLemmas.{came_by_all, told_by_all}
use Rattle.event_loop.proofs.laws.all_that_came_is_in_turns.Goals as goal

pub returns-clause-came : goal.returns-clause-came
returns-clause-came g c turns old new done = came_by_all turns old new done

pub returns-clause-told : goal.returns-clause-told
returns-clause-told g c turns old new done = told_by_all turns old new done
