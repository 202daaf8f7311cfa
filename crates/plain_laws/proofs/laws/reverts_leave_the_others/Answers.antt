use Rattle.std.proofs.Common.{◌+◌, ◌∙◌}
use Rattle.desk_edit.specs.Calls.{after_call}
use Rattle.desk_edit.specs.InForce.{desk_with}
use Rattle.plain_laws.proofs.laws.reverts_leave_the_others.Goals as goal

pub returns : goal.returns
unfolding after_call
returns c = (
  desk_with,
  (λ core h called. called.desk),
  (λ core h number called plain.
      called.desk ∙ c.reverted_calls_were_never_made.ensures h.start h.done (h.accepted + 1) number plain),
)
