use Rattle.forward_rewrite.proofs.KeepingTime.{keeps_time, all_stamped, first_stamp}
use Rattle.forward_rewrite.proofs.laws.time_goes_on.Goals as goal

pub returns-clause-all : goal.returns-clause-all
returns-clause-all c = all_stamped

pub returns-clause-first : goal.returns-clause-first
returns-clause-first c = first_stamp

pub returns-clause-neighbours : goal.returns-clause-neighbours
returns-clause-neighbours c = keeps_time
