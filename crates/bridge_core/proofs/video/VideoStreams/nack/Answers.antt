use Rattle.std.proofs.Common.{ap, sym, ◌∙◌, map, Some}
use Rattle.std.proofs.lemmas.Result.{IfOk-weaker}
use Rattle.media_items.specs.Inputs.{Request}
use Rattle.bridge_core.specs.Sent.{sent_of}
use Rattle.bridge_core.specs.Lanes.{goes}
use Rattle.receiver_feedback.specs.Resends.{resends}
use Rattle.bridge_core.specs.LaneState.{stream_at}
use Rattle.bridge_core.proofs.AskedAgain.{window_of, nothing_again, others_answered, mine_answered}
use Rattle.bridge_core.proofs.video.VideoStreams.nack.Goals as goal

pub returns-then-not-is_mine : goal.returns-then-not-is_mine
returns-then-not-is_mine g c =
    let request : Request =
    record { from = c.args.from.now; out_ssrc = c.args.out_ssrc; numbers = c.args.numbers.now } in
    others_answered c.args.visit.now c.args.self.now request (map sent_of c.new.result.items)
    (sym c.is_mine.ensures ∙ c.if-not-is_mine.true) (ap (map sent_of) c.new.ensures.items)

pub returns-in_ok-entries-in-Some : goal.returns-in_ok-entries-in-Some
returns-in_ok-entries-in-Some g c =
    let request : Request =
    record { from = c.args.from.now; out_ssrc = c.args.out_ssrc; numbers = c.args.numbers.now } in
    IfOk-weaker c.all_again.result _ _ (λ sent is.
    mine_answered c.args.visit.now c.args.self.now request (map sent_of sent.items)
    (sym c.is_mine.ensures ∙ c.if-not-is_mine.false)
    (is
    ∙ ap (map (goes c.args.out_ssrc (Some c.args.visit.now.stamp.version))) (c.in_ok-entries-in-Some.ensures
    ∙ ap (λ w. resends c.args.visit.now.rows.now c.args.from.now c.args.numbers.now (window_of w))
    (c.in-Some.ensures.value ∙ ap (stream_at c.args.out_ssrc) c.self.view_is))))
    c.all_again.ensures

pub returns-in-None : goal.returns-in-None
returns-in-None g c =
    let request : Request =
    record { from = c.args.from.now; out_ssrc = c.args.out_ssrc; numbers = c.args.numbers.now } in
    mine_answered c.args.visit.now c.args.self.now request (map sent_of c.new-in-None.result.items)
    (sym c.is_mine.ensures ∙ c.if-not-is_mine.false)
    (ap (map sent_of) c.new-in-None.ensures.items
    ∙ ap (map (goes c.args.out_ssrc (Some c.args.visit.now.stamp.version))) (sym
    (nothing_again c.args.visit.now.rows.now c.args.from.now c.args.numbers.now)
    ∙ ap (λ w. resends c.args.visit.now.rows.now c.args.from.now c.args.numbers.now (window_of w))
    (c.in-None.ensures.value ∙ ap (stream_at c.args.out_ssrc) c.self.view_is)))
