use Rattle.std.proofs.Common.{◌≡◌, ℕ, true, List, [], ◌∷◌, length, map, refl, ap, sym, ◌∙◌}
use Rattle.desk_rows.specs.Desk.{blank, good}
use Rattle.sender_feedback.specs.Upstream.{Asker}
use Rattle.media_items.specs.Inputs.{input_of}
use Rattle.ingress.specs.inner.Holding.{IngressOf}
use Rattle.bridge_core.specs.Sent.{Sent, sent_of}
use Rattle.bridge_core.specs.Steps.{Step, sends}
use Rattle.bridge_core.specs.Runs.{Runs}
use Rattle.worked_bridge.proofs.whole_runs.sends_its_lists.Goals as goal

pub returns-in-Ok-item-clause-given : goal.returns-in-Ok-item-clause-given
returns-in-Ok-item-clause-given c =
    let start = blank c.args.settings.bridge_ssrc in
    let first = c.in-Ok.core in
    let last = c.item.new.self in
    let sent : List (List Sent) = map sent_of c.in-Ok-item.sent.items ∷ [] in
    let steps : List Step = Step.item 2 (input_of c.args.item.now) ∷ [] in
    let who : Asker = record { ssrc = c.args.settings.bridge_ssrc; cname = c.args.settings.cname } in
    let runs : Runs first steps sent last = (
      last,
      sent,
      [],
      refl,
      c.in-Ok-item.ensures.takes,
      c.in-Ok-item.ensures.lanes,
      ap (λ (i : IngressOf). i.asker) c.in-Ok-item.ensures.ingress,
      (refl, refl),
    ) in
    (c.all_that_is_sent.ensures start steps sent first last c.in-Ok.ensures.fresh runs).0
    ∙ ap (λ (w : Asker). sends w (length first.lanes) start steps) c.in-Ok.ensures.asker
    ∙ ap (λ (n : ℕ). sends who n start steps) c.in-Ok.ensures.lanes

pub returns-in-Ok-item-clause-videos : goal.returns-in-Ok-item-clause-videos
returns-in-Ok-item-clause-videos c = λ ssrc.
    let start = blank c.args.settings.bridge_ssrc in
    let begins : good start ≡ true = ap good (sym c.in-Ok.ensures.fresh.desk) ∙ c.in-Ok.ensures.begins in
    c.streams_are_routed_lists.ensures (record { ssrc = c.args.settings.bridge_ssrc; cname = c.args.settings.cname }) 3
    start (Step.item 2 (input_of c.args.item.now) ∷ []) ssrc begins (tt, tt)

pub returns-in-Ok-item-clause-mixes : goal.returns-in-Ok-item-clause-mixes
returns-in-Ok-item-clause-mixes c = λ ssrc.
    let start = blank c.args.settings.bridge_ssrc in
    let begins : good start ≡ true = ap good (sym c.in-Ok.ensures.fresh.desk) ∙ c.in-Ok.ensures.begins in
    c.mixes_are_mix_lists.ensures (record { ssrc = c.args.settings.bridge_ssrc; cname = c.args.settings.cname }) 3 start
    (Step.item 2 (input_of c.args.item.now) ∷ []) ssrc begins (tt, tt)
