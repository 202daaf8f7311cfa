use Rattle.std.proofs.Common.{List, length, map, filter, ap, sym, subst, ◌∙◌}
use Rattle.std.proofs.lemmas.Result.{IfOk-weaker}
use Rattle.media_items.specs.Inputs.{Input}
use Rattle.bridge_core.specs.Sent.{Sent, sent_of}
use Rattle.bridge_core.specs.Lanes.{routed_to, sends_at}
use Rattle.bridge_core.specs.Steps.{Step, sent_at, visit_after, visits}
use Rattle.bridge_core.specs.Named.{is_on}
use Rattle.bridge_core.specs.Headline.{IsChosenOf, GoesWhole}
use Rattle.worked_bridge.proofs.Answered.{of_each, only}
use Rattle.worked_bridge.proofs.sending.a_frame_goes_to_the_chosen.Goals as goal

pub returns-clause-chosen : goal.returns-clause-chosen
returns-clause-chosen c =
    let who = c.args.core.now.ingress.asker in
    let lanes = length c.args.core.now.lanes in
    IfOk-weaker c.item.result _ _ (λ sent takes start before f taken good is.
    let at =
    (takes start before taken).0 ∙ ap (λ input. sent_at who lanes start before (Step.item c.args.lane input)) is in
    of_each (IsChosenOf (visit_after start before c.args.lane (Input.frame f)) f) (map sent_of sent.items) _ at
    (c.packets_are_chosen.ensures who lanes c.args.lane start before f good)) c.item.ensures.takes

pub returns-clause-whole : goal.returns-clause-whole
returns-clause-whole c =
    let who = c.args.core.now.ingress.asker in
    let lanes = length c.args.core.now.lanes in
    IfOk-weaker c.item.result _ _ (λ sent takes start before f ssrc r taken good is mine chose.
    let visit = visit_after start before c.args.lane (Input.frame f) in
    let at =
    (takes start before taken).0 ∙ ap (λ input. sent_at who lanes start before (Step.item c.args.lane input)) is in
    let same =
    only (map sent_of sent.items) (sends_at who c.args.lane lanes (visits c.args.lane start before) visit) at in
    subst (λ (list : List Sent). GoesWhole ssrc (routed_to visit f r).sending (filter (is_on ssrc) list)) (sym same)
    (c.frames_go_whole.ensures who lanes c.args.lane start before f ssrc r good mine chose)) c.item.ensures.takes
