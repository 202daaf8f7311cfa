use Rattle.std.proofs.Common.{◌++◌, ℕ, List, [], ◌∷◌, length, map, ap, sym, ◌∙◌, arith}
use Rattle.sender_feedback.specs.Upstream.{Asker}
use Rattle.media_items.specs.Inputs.{input_of}
use Rattle.ingress.specs.inner.Holding.{IngressOf}
use Rattle.bridge_core.specs.Sent.{Sent, sent_of}
use Rattle.bridge_core.specs.Steps.{Step, sent_at}
use Rattle.bridge_core.specs.Named.{sent_on}
use Rattle.worked_bridge.proofs.whole_runs.is_the_same_on_two_lanes.Goals as goal

pub returns : goal.returns
returns c = λ start ssrc one two.
    let who = c.args.one.now.ingress.asker in
    let at : ℕ → Step = λ lane. Step.item lane (input_of c.args.item.now) in
    let name = ap (λ (i : IngressOf). i.asker) c.in-Ok-item.ensures.ingress ∙ c.requires.name in
    let lanes = c.in-Ok-item.ensures.lanes ∙ c.requires.two in
    let behind = c.in-Ok-item.ensures.takes start [] two in
    let alone = (c.in-Ok.ensures.takes start [] one).0 ∙ ap (λ n. sent_at who n start [] (at 0)) c.requires.one in
    let first =
    behind.0
    ∙ ap (λ (w : Asker). sent_at w (length c.args.two.now.lanes) start [] (at 0)) c.requires.name
    ∙ ap (λ n. sent_at who n start [] (at 0)) c.requires.two in
    let second = (c.in-Ok-item-2.ensures.takes start (at 0 ∷ []) behind.1).0
    ∙ ap (λ (w : Asker). sent_at w (length c.item-2.new.self.lanes) start (at 0 ∷ []) (at 1)) name
    ∙ ap (λ n. sent_at who n start (at 0 ∷ []) (at 1)) lanes in
    let both =
    ap (λ (sent : List (List Sent)). sent ++ map sent_of c.in-Ok-item-2.second.items ∷ []) first
    ∙ ap (λ (sent : List (List Sent)). sent_at who 2 start [] (at 0) ++ sent) second in
    ap (sent_on ssrc) alone
    ∙ c.lane_count_does_not_matter.ensures.every_lane who 1 2 start (at 0 ∷ []) ssrc (omega arith) (omega arith)
    ∙ sym (ap (sent_on ssrc) both)
