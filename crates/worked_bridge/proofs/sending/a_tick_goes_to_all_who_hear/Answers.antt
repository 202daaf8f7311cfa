use Rattle.std.proofs.Common.{List, length, map, filter, ap, sym, subst, ◌∙◌}
use Rattle.std.proofs.lemmas.Result.{IfOk-weaker}
use Rattle.media_items.specs.Inputs.{Input}
use Rattle.bridge_core.specs.Sent.{Sent, sent_of}
use Rattle.bridge_core.specs.Lanes.{given_of, sends_at}
use Rattle.bridge_core.specs.Steps.{Step, sent_at, visit_after, visits}
use Rattle.bridge_core.specs.Named.{is_on}
use Rattle.bridge_core.specs.Headline.{IsMixOf, GoesOnce}
use Rattle.worked_bridge.proofs.Answered.{of_each, only}
use Rattle.worked_bridge.proofs.sending.a_tick_goes_to_all_who_hear.Goals as goal

pub returns-clause-heard : goal.returns-clause-heard
returns-clause-heard c =
    let who = c.args.core.now.ingress.asker in
    let lanes = length c.args.core.now.lanes in
    IfOk-weaker c.item.result _ _ (λ sent takes start before moment taken good is.
    let at =
    (takes start before taken).0 ∙ ap (λ input. sent_at who lanes start before (Step.item c.args.lane input)) is in
    of_each
    (IsMixOf (given_of (visits c.args.lane start before)) (visit_after start before c.args.lane (Input.tick moment)))
    (map sent_of sent.items) _ at (c.mixes_are_heard.ensures who lanes c.args.lane start before moment good))
    c.item.ensures.takes

pub returns-clause-all : goal.returns-clause-all
returns-clause-all c =
    let who = c.args.core.now.ingress.asker in
    let lanes = length c.args.core.now.lanes in
    IfOk-weaker c.item.result _ _ (λ sent takes start before moment m sound taken good is mine mixes hears.
    let visit = visit_after start before c.args.lane (Input.tick moment) in
    let at =
    (takes start before taken).0 ∙ ap (λ input. sent_at who lanes start before (Step.item c.args.lane input)) is in
    let same =
    only (map sent_of sent.items) (sends_at who c.args.lane lanes (visits c.args.lane start before) visit) at in
    subst (λ (list : List Sent). GoesOnce visit m sound (filter (is_on m.out_audio) list)) (sym same)
    (c.all_who_hear_get_it.ensures who lanes c.args.lane start before moment m sound good mine mixes hears))
    c.item.ensures.takes
