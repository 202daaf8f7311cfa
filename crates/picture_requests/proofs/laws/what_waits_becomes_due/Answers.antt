use Rattle.std.proofs.Common.{refl, ◌∙◌}
use Rattle.picture_requests.specs.Requests.{no_requests}
use Rattle.picture_requests.specs.Steps.{after_steps}
use Rattle.picture_requests.proofs.Waits.{waits_on}
use Rattle.picture_requests.proofs.Freed.{past_on, none_lately, due_then}
use Rattle.picture_requests.proofs.laws.what_waits_becomes_due.Goals as goal

pub returns : goal.returns
returns c source steps moment waits old =
    let end = after_steps steps no_requests in
    due_then source moment end (waits_on source steps no_requests ∙ waits)
    (none_lately source moment end.sent (past_on source moment steps no_requests refl old))
