use Rattle.std.proofs.Common.{List, length, Some, sym, ap, subst, ◌∙◌}
use Rattle.std.specs.List.{AllByRecursion, Contains}
use Rattle.std.proofs.lemmas.Result.{IfOk-weaker}
use Rattle.media_items.specs.Inputs.{Input}
use Rattle.bridge_core.specs.Sent.{Sent}
use Rattle.bridge_core.specs.Lanes.{goes}
use Rattle.bridge_core.specs.Steps.{Step, sent_at, visit_after}
use Rattle.bridge_core.specs.Headline.{LeadsBack}
use Rattle.worked_bridge.proofs.Answered.{only}
use Rattle.worked_bridge.proofs.sending.a_nack_leads_back.Goals as goal

pub returns-clause-back : goal.returns-clause-back
returns-clause-back c =
    let who = c.args.core.now.ingress.asker in
    let lanes = length c.args.core.now.lanes in
    IfOk-weaker c.item.result _ _ (λ sent takes start before request taken good goods is.
    let at =
    (takes start before taken).0 ∙ ap (λ input. sent_at who lanes start before (Step.item c.args.lane input)) is in
    subst
    (AllByRecursion
    (LeadsBack who lanes start before c.args.lane (visit_after start before c.args.lane (Input.nack request)) request))
    (sym (only _ _ at))
    (c.resends_lead_back.ensures who lanes c.args.lane start before request good goods).each) c.item.ensures.takes

pub returns-clause-owed : goal.returns-clause-owed
returns-clause-owed c =
    let who = c.args.core.now.ingress.asker in
    let lanes = length c.args.core.now.lanes in
    IfOk-weaker c.item.result _ _ (λ sent takes start before request p taken good goods is mine owed.
    let at =
    (takes start before taken).0 ∙ ap (λ input. sent_at who lanes start before (Step.item c.args.lane input)) is in
    subst
    (λ (es : List Sent).
    Contains es (goes request.out_ssrc (Some (visit_after start before c.args.lane (Input.nack request)).version) p))
    (sym (only _ _ at))
    ((c.resends_lead_back.ensures who lanes c.args.lane start before request good goods).all p mine owed))
    c.item.ensures.takes
