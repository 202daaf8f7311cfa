use Rattle.std.proofs.Common.{ℕ, ◌%◌, nat_eq, List, [], length, map, None, sym, ap, subst, ◌∙◌}
use Rattle.std.specs.List.{AllByRecursion, IsDistinct}
use Rattle.media_items.specs.Inputs.{Input}
use Rattle.bridge_core.specs.Sent.{Sent}
use Rattle.bridge_core.specs.Lanes.{packets, goes}
use Rattle.bridge_core.specs.Steps.{visits}
use Rattle.bridge_core.specs.Headline.{numbers}
use Rattle.bridge_core.specs.WholeRuns.{sent_after}
use Rattle.plain_laws.specs.SentLists.{first_sent}
use Rattle.plain_laws.specs.SentAgain.{video, IsSentAgain}
use Rattle.plain_laws.proofs.RunAlong.{gone_along}
use Rattle.plain_laws.proofs.SentBefore.{one_alone, all_sent_before}
use Rattle.plain_laws.proofs.laws.sent_again_was_sent_before.Goals as goal

pub returns-clause-each : goal.returns-clause-each
returns-clause-each c start before sent first ready last lane request now taken h all run takes =
    let who = ready.ingress.asker in
    let lanes = length ready.lanes in
    let k = request.out_ssrc in
    let went = gone_along start [] before sent first ready taken run in
    let here = takes start before went.1 in
    let is = one_alone now (sent_after who lanes start before lane (Input.nack request)) here.0 in
    let list =
    ap (first_sent (video k) before) went.0
    ∙ c.first_sendings_are_the_same.ensures first.ingress.asker (length first.lanes) start before (video k)
    ∙ c.streams_are_routed_lists.ensures first.ingress.asker (length first.lanes) start before k h all in
    subst (AllByRecursion (IsSentAgain start before sent request)) (sym is)
    (all_sent_before c.time_goes_on.ensures.all who lanes lane start before request sent
    (list ∙ ap (λ (n : ℕ). map (goes k None) (packets k (visits (k % n) start before))) (sym went.2))
    (c.resends_lead_back.ensures who lanes lane start before request h all))

pub returns-clause-once : goal.returns-clause-once
returns-clause-once c start before sent first ready last lane request now taken h all run takes =
    let who = ready.ingress.asker in
    let lanes = length ready.lanes in
    let went = gone_along start [] before sent first ready taken run in
    let here = takes start before went.1 in
    let is = one_alone now (sent_after who lanes start before lane (Input.nack request)) here.0 in
    subst (λ (all : List Sent). IsDistinct nat_eq (numbers all)) (sym is)
    (c.resends_lead_back.ensures who lanes lane start before request h all).once
