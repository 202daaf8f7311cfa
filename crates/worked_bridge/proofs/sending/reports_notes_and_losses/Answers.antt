use Rattle.std.proofs.Common.{length, map, ap, ◌∙◌}
use Rattle.std.proofs.lemmas.Result.{IfOk-weaker}
use Rattle.media_items.specs.Inputs.{Input}
use Rattle.bridge_core.specs.Sent.{sent_of}
use Rattle.bridge_core.specs.Steps.{Step, sent_at, visit_after}
use Rattle.bridge_core.specs.Telling.{IsSenderReportOf, IsNoteOf, IsPassedUpOf}
use Rattle.worked_bridge.proofs.Answered.{of_each}
use Rattle.worked_bridge.proofs.sending.reports_notes_and_losses.Goals as goal

pub returns-clause-counts : goal.returns-clause-counts
returns-clause-counts c =
    let who = c.args.core.now.ingress.asker in
    let lanes = length c.args.core.now.lanes in
    IfOk-weaker c.item.result _ _ (λ sent takes start before moment taken good goods is.
    let at =
    (takes start before taken).0 ∙ ap (λ input. sent_at who lanes start before (Step.item c.args.lane input)) is in
    of_each
    (IsSenderReportOf who lanes start before (visit_after start before c.args.lane (Input.report moment)) moment)
    (map sent_of sent.items) _ at
    (c.reports_count_first_sendings.ensures who lanes c.args.lane start before moment good goods)) c.item.ensures.takes

pub returns-clause-notes : goal.returns-clause-notes
returns-clause-notes c =
    let who = c.args.core.now.ingress.asker in
    let lanes = length c.args.core.now.lanes in
    IfOk-weaker c.item.result _ _ (λ sent takes start before told taken good goods is.
    let at =
    (takes start before taken).0 ∙ ap (λ input. sent_at who lanes start before (Step.item c.args.lane input)) is in
    of_each (IsNoteOf who lanes start before c.args.lane (visit_after start before c.args.lane (Input.block told)) told)
    (map sent_of sent.items) _ at (c.notes_lead_back.ensures who lanes c.args.lane start before told good goods))
    c.item.ensures.takes

pub returns-clause-losses : goal.returns-clause-losses
returns-clause-losses c =
    let who = c.args.core.now.ingress.asker in
    let lanes = length c.args.core.now.lanes in
    IfOk-weaker c.item.result _ _ (λ sent takes start before loss taken is.
    let at =
    (takes start before taken).0 ∙ ap (λ input. sent_at who lanes start before (Step.item c.args.lane input)) is in
    of_each (IsPassedUpOf who (visit_after start before c.args.lane (Input.pli loss)) loss) (map sent_of sent.items) _
    at (c.picture_losses_go_to_the_chosen.ensures who lanes c.args.lane start before loss)) c.item.ensures.takes
