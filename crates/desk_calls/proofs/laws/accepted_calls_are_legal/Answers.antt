use Rattle.desk_calls.proofs.FollowLaws.{all_accepted, all_called}
use Rattle.desk_calls.proofs.laws.accepted_calls_are_legal.Goals as goal

pub returns-clause-legal : goal.returns-clause-legal
returns-clause-legal c first last calls h called accepts = all_accepted first last calls h called accepts

pub returns-clause-leads : goal.returns-clause-leads
returns-clause-leads c first last calls h called accepts = all_called first last calls h called accepts
