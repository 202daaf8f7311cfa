use Rattle.desk_groups.proofs.LegalCalls.{legal, lead}
use Rattle.desk_groups.proofs.laws.groups_are_legal_calls.Goals as goal

pub returns-clause-legal : goal.returns-clause-legal
returns-clause-legal c h groups accepted few = legal h groups accepted few

pub returns-clause-leads : goal.returns-clause-leads
returns-clause-leads c h groups = lead h groups
