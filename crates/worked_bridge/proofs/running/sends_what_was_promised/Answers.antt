use Rattle.std.proofs.Common.{◌≡◌, ℕ, true, List, [], ◌∷◌, map, refl, ap, sym, subst, ◌∙◌}
use Rattle.desk_rows.specs.Desk.{blank, good}
use Rattle.desk_edit.specs.Asked.{asked_by}
use Rattle.desk_edit.specs.Calls.{no_calls}
use Rattle.sender_feedback.specs.Upstream.{Asker}
use Rattle.media_items.specs.Inputs.{input_of}
use Rattle.ingress.specs.inner.Holding.{IngressOf}
use Rattle.bridge_core.specs.Sent.{sent_of}
use Rattle.bridge_core.specs.Events.{Event, Accepts, Sends, Plays, steps_of}
use Rattle.bridge_core.specs.WholeRuns.{Holds}
use Rattle.worked_bridge.proofs.Playing.{at_rest}
use Rattle.worked_bridge.proofs.running.sends_what_was_promised.Goals as goal

pub returns-in-Ok-item : goal.returns-in-Ok-item
returns-in-Ok-item c =
    let start = blank c.args.settings.bridge_ssrc in
    let first = c.in-Ok.core in
    let middle = c.desk.new.self in
    let last = c.item.new.self in
    let input = input_of c.args.item.now in
    let sent = map sent_of c.in-Ok-item.sent.items in
    let events : List Event = Event.called (asked_by c.args.call) ∷ Event.item 2 input ∷ [] in
    let begins : good start ≡ true = ap good (sym c.in-Ok.ensures.fresh.desk) ∙ c.in-Ok.ensures.begins in
    let accepts : Accepts first middle (asked_by c.args.call) = record {
      number = c.in-Accepted.no;
      answered = c.in-Accepted.ensures.history;
      takes = c.in-Accepted.ensures.takes;
      good = c.in-Accepted.ensures.good;
      lanes = c.in-Accepted.ensures.answer.2;
      who = ap (λ (i : IngressOf). i.asker) c.in-Accepted.ensures.ingress;
    } in
    let sends : Sends middle last 2 input sent = record {
      takes = c.in-Ok-item.ensures.takes;
      version = c.in-Ok-item.ensures.desk.0;
      desk = c.in-Ok-item.ensures.desk.1;
      history = c.in-Ok-item.ensures.history.2;
      done = c.in-Ok-item.ensures.history.0;
      undone = c.in-Ok-item.ensures.history.1;
      lanes = c.in-Ok-item.ensures.lanes;
      who = ap (λ (i : IngressOf). i.asker) c.in-Ok-item.ensures.ingress;
    } in
    let plays : Plays first events (sent ∷ []) last = (
      first,
      middle,
      at_rest first,
      accepts,
      (middle, last, sent, [], refl, at_rest middle, sends, (refl, at_rest last)),
    ) in
    subst (λ (who : Asker). Holds who 3 start (steps_of (no_calls start) events) (sent ∷ [])) c.in-Ok.ensures.asker
    (subst (λ (n : ℕ). Holds first.ingress.asker n start (steps_of (no_calls start) events) (sent ∷ []))
    c.in-Ok.ensures.lanes
    (c.the_headline.ensures.holds start events (sent ∷ []) first last begins c.in-Ok.ensures.fresh
    c.in-Ok.ensures.history plays))
