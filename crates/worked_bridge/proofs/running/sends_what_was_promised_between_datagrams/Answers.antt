use Rattle.std.proofs.Common.{◌≡◌, ℕ, true, List, [], ◌∷◌, map, refl, ap, sym, subst, ◌∙◌}
use Rattle.desk_rows.specs.Desk.{blank, good}
use Rattle.desk_edit.specs.Asked.{asked_by}
use Rattle.desk_edit.specs.Calls.{no_calls}
use Rattle.sender_feedback.specs.Upstream.{Asker}
use Rattle.media_items.specs.Inputs.{input_of}
use Rattle.ingress.specs.inner.Holding.{IngressOf}
use Rattle.bridge_core.specs.Sent.{sent_of}
use Rattle.bridge_core.specs.Events.{Event, Accepts, Sends, Listens, Plays, steps_of}
use Rattle.bridge_core.specs.WholeRuns.{Holds}
use Rattle.worked_bridge.proofs.Playing.{at_rest}
use Rattle.worked_bridge.proofs.running.sends_what_was_promised_between_datagrams.Goals as goal

pub returns-in-Ok-item-2 : goal.returns-in-Ok-item-2
returns-in-Ok-item-2 c =
    let start = blank c.args.settings.bridge_ssrc in
    let core = c.in-Ok.core in
    let called = c.desk.new.self in
    let heard = c.datagram.new.self in
    let between = c.item.new.self in
    let told = c.reports.new.self in
    let last = c.item-2.new.self in
    let input = input_of c.args.item.now in
    let sent = map sent_of c.in-Ok-item.sent.items in
    let later = map sent_of c.in-Ok-item-2.later.items in
    let events : List Event = Event.called (asked_by c.args.call) ∷ Event.item 2 input ∷ Event.item 0 input ∷ [] in
    let begins : good start ≡ true = ap good (sym c.in-Ok.ensures.fresh.desk) ∙ c.in-Ok.ensures.begins in
    let accepts : Accepts core called (asked_by c.args.call) = record {
      number = c.in-Accepted.no;
      answered = c.in-Accepted.ensures.history;
      takes = c.in-Accepted.ensures.takes;
      good = c.in-Accepted.ensures.good;
      lanes = c.in-Accepted.ensures.answer.2;
      who = ap (λ (i : IngressOf). i.asker) c.in-Accepted.ensures.ingress;
    } in
    let hears : Listens called heard = record {
      version = c.datagram.ensures.others.0;
      desk = c.datagram.ensures.others.1;
      history = c.datagram.ensures.others.5;
      done = c.datagram.ensures.others.2;
      undone = c.datagram.ensures.others.3;
      lanes = c.datagram.ensures.others.4;
      who = c.datagram.ensures.asker;
    } in
    let sends : Sends heard between 2 input sent = record {
      takes = c.in-Ok-item.ensures.takes;
      version = c.in-Ok-item.ensures.desk.0;
      desk = c.in-Ok-item.ensures.desk.1;
      history = c.in-Ok-item.ensures.history.2;
      done = c.in-Ok-item.ensures.history.0;
      undone = c.in-Ok-item.ensures.history.1;
      lanes = c.in-Ok-item.ensures.lanes;
      who = ap (λ (i : IngressOf). i.asker) c.in-Ok-item.ensures.ingress;
    } in
    let reports : Listens between told = record {
      version = c.reports.ensures.others.0;
      desk = c.reports.ensures.others.1;
      history = c.reports.ensures.others.5;
      done = c.reports.ensures.others.2;
      undone = c.reports.ensures.others.3;
      lanes = c.reports.ensures.others.4;
      who = c.reports.ensures.asker;
    } in
    let sends_more : Sends told last 0 input later = record {
      takes = c.in-Ok-item-2.ensures.takes;
      version = c.in-Ok-item-2.ensures.desk.0;
      desk = c.in-Ok-item-2.ensures.desk.1;
      history = c.in-Ok-item-2.ensures.history.2;
      done = c.in-Ok-item-2.ensures.history.0;
      undone = c.in-Ok-item-2.ensures.history.1;
      lanes = c.in-Ok-item-2.ensures.lanes;
      who = ap (λ (i : IngressOf). i.asker) c.in-Ok-item-2.ensures.ingress;
    } in
    let plays : Plays core events (sent ∷ later ∷ []) last = (
      core,
      called,
      at_rest core,
      accepts,
      (
        heard,
        between,
        sent,
        later ∷ [],
        refl,
        hears,
        sends,
        (told, last, later, [], refl, reports, sends_more, (refl, at_rest last)),
      ),
    ) in
    subst (λ (who : Asker). Holds who 3 start (steps_of (no_calls start) events) (sent ∷ later ∷ []))
    c.in-Ok.ensures.asker
    (subst (λ (n : ℕ). Holds core.ingress.asker n start (steps_of (no_calls start) events) (sent ∷ later ∷ []))
    c.in-Ok.ensures.lanes
    (c.the_headline.ensures.holds start events (sent ∷ later ∷ []) core last begins c.in-Ok.ensures.fresh
    c.in-Ok.ensures.history plays))
