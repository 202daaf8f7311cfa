use Rattle.bridge_core.specs.Steps.{core_desk}
use Rattle.bridge_core.proofs.laws.edits_lead_back.Goals as goal

pub returns-clause-leads : goal.returns-clause-leads
returns-clause-leads c core h called = c.edits_lead_back.ensures.leads (core_desk core) h called

pub returns-clause-back : goal.returns-clause-back
returns-clause-back c core h called = c.edits_lead_back.ensures.back (core_desk core) h called
