use Rattle.event_loop.proofs.MomentLemmas.{turns_rise, arrivals_rise, told_rise}
use Rattle.event_loop.proofs.laws.moments_never_go_back.Goals as goal

pub returns-clause-turns : goal.returns-clause-turns
returns-clause-turns g c turns old new done = turns_rise turns old new done

pub returns-clause-arrivals : goal.returns-clause-arrivals
returns-clause-arrivals g c turns old new done = arrivals_rise turns old new done

pub returns-clause-told : goal.returns-clause-told
returns-clause-told g c turns old new done = told_rise turns old new done
