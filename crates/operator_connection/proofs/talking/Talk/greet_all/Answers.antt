use Rattle.std.proofs.Common.{ap, ◌∙◌}
use Rattle.operator_lines.specs.Fed.{texts}
use Rattle.operator_connection.specs.declared.talking.Talk.{Talk}
use Rattle.operator_connection.proofs.CallerLemmas.{on_err, same_by_none}
use Rattle.operator_connection.proofs.talking.Talk.greet_all.Goals as goal

pub returns-in_err-refuse_too_long-clause-err : goal.returns-in_err-refuse_too_long-clause-err
returns-in_err-refuse_too_long-clause-err c =
    on_err _
    (ap (λ (t : Talk). t.outgoing) c.in_err-refuse_too_long.ensures.err
    ∙ same_by_none (texts c.args.lines.now) c.in_ok-greeted.greeted _ _ _ _ c.has_none.result c.has_none.ensures
    c.in_err-refuse_too_long.ensures.goes_on c.in_ok-greeted.ensures.first)
