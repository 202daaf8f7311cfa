use Rattle.desk_calls.proofs.FollowLaws.{leads_to_desk, leads_to_start}
use Rattle.desk_calls.proofs.laws.edits_lead_back.Goals as goal

pub returns-clause-leads : goal.returns-clause-leads
returns-clause-leads c d h called = leads_to_desk d h called

pub returns-clause-back : goal.returns-clause-back
returns-clause-back c d h called = leads_to_start d h called
