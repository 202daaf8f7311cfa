use Rattle.std.proofs.Common.{sym, ◌∙◌}
use Rattle.picture_requests.specs.Requests.{no_requests}
use Rattle.picture_requests.specs.Steps.{after_steps}
use Rattle.picture_requests.proofs.Waits.{waits_on}
use Rattle.picture_requests.proofs.Spaced.{due_parts}
use Rattle.picture_requests.proofs.laws.nothing_is_asked_unasked.Goals as goal

pub returns-clause-waits : goal.returns-clause-waits
returns-clause-waits c source steps = waits_on source steps no_requests

pub returns-clause-due : goal.returns-clause-due
returns-clause-due c source steps moment is =
    sym (waits_on source steps no_requests) ∙ (due_parts source moment (after_steps steps no_requests) is).waits
