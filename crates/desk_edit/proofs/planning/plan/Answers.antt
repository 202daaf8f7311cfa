use Rattle.desk_edit.specs.declared.refusal.Refusal.TheVariants.{OutOfMemory}
use Rattle.desk_edit.proofs.Words.{sym, ap, ◌∙◌, edit_for}
use Rattle.desk_rows.specs.Exchange.{fits, after}
use Rattle.desk_edit.proofs.planning.plan.Goals as goal
use Rattle.desk_edit.proofs.Outcomes.{planned, never_memory, error_or}

pub returns-in-Some-clause-memory : goal.returns-in-Some-clause-memory
returns-in-Some-clause-memory g c h =
    absurd (never_memory c.in-Some.why (sym c.refusal.ensures ∙ ap (error_or OutOfMemory) h))

pub returns-in-Ok-clause-fits : goal.returns-in-Ok-clause-fits
returns-in-Ok-clause-fits g c =
    let d = c.args.rows.now in
    ap (fits d) (c.in-Ok.ensures.edit ∙ ap (edit_for d) c.form.ensures)
    ∙ (planned d c.args.command.now c.edit_for.ensures.good cc).fits

pub returns-in-Ok-clause-carries_out : goal.returns-in-Ok-clause-carries_out
returns-in-Ok-clause-carries_out g c =
    let d = c.args.rows.now in
    ap (after d) (c.in-Ok.ensures.edit ∙ ap (edit_for d) c.form.ensures)
    ∙ (planned d c.args.command.now c.edit_for.ensures.good cc).leads
