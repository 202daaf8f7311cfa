-- The core goes on as the bridge does.
use Rattle.std.proofs.Common.{◌≡◌, ℕ, Option, List, [], ◌∷◌, ◌++◌, length, map, get_or, zero, suc, ◌<◌, arith, true}
use Rattle.std.proofs.Common.{false, Some, None, Result, Ok, Err, refl, sym, ap, ◌∙◌, subst, append_assoc}
use Rattle.std.proofs.lemmas.List.{append-nil}
use Rattle.std.specs.Result.{OnOk}
use Rattle.desk_rows.specs.Desk.{Desk}
use Rattle.desk_edit.specs.Asked.{CallOf}
use Rattle.desk_edit.specs.Asked.CallOf.{Apply, Group, Undo, Redo, Revert}
use Rattle.desk_edit.specs.declared.refusal.Refusal.{Refusal}
use Rattle.desk_edit.specs.declared.refusal.Refusal.TheVariants.{OutOfMemory}
use Rattle.desk_edit.specs.Calls.{no_calls, desk_now, refusal_of, after_call as history_after}
use Rattle.desk_calls.specs.declared.reply.Reply.{Reply}
use Rattle.desk_calls.specs.declared.reply.Reply.TheVariants.{Accepted, Refused}
use Rattle.sender_feedback.specs.Upstream.{Asker}
use Rattle.media_items.specs.Inputs.{Input, is_sized}
use Rattle.media_items.specs.Inputs.Input.{report}
use Rattle.bridge_core.specs.Sent.{Sent}
use Rattle.std.specs.Prelude.{slice_get}
use Rattle.bridge_core.specs.LaneState.{LaneOf}
use Rattle.bridge_core.specs.Calls.{Answers, OnAccepted}
use Rattle.desk_calls.specs.Following.{IsTold}
use Rattle.bridge_core.specs.Following.{HasCalled, IsAnswered}
use Rattle.bridge_core.specs.Steps.{CoreOf, Step, HasTaken, Takes, sent_at, visits, visit_after}
use Rattle.std.specs.List.{flat_map, list_all}
use Rattle.std.proofs.lemmas.Bool.{and_parts}
use Rattle.bridge_core.specs.Lanes.{sends_at}
use Rattle.rtp_codec.specs.declared.address.Address.{Address}
use Rattle.ingress.specs.Ingested.{Ingested}
use Rattle.ingress.specs.Sources.{Sources, no_sources}
use Rattle.ingress.specs.Taking.{taken_in}
use Rattle.ingress.specs.Waiting.{waited_for}
use Rattle.ingress.specs.Ingresses.{Knows, TakesIn, WaitsFor, TellsSenders}
use Rattle.ingress.specs.Reported.{reported}
use Rattle.desk_text.specs.Text.{reply_text}
use Rattle.desk_text.specs.RowLines.{show_text}
use Rattle.script_text.specs.Decodings.{Decoding, voice_of}
use Rattle.script_text.specs.Requests.{Desk as DeskRequest, Rx, Wait, Report, Show}
use Rattle.script_text.specs.Datagrams.{outcome_text, up_text}
use Rattle.script_text.specs.SentLines.{sent_text}
use Rattle.script_text.specs.Bridge.{answer_call, Bridge, first_desk, answer_text, bridge_after, text_of, begun_bridge}
use Rattle.script_text.specs.Bridge.{item_sent, after_item, items_sent, items_text, after_items, knowing, taken_at}
use Rattle.script_text.specs.Bridge.{waited_at, origin_at, reported_at}
use Rattle.script_text.specs.inner.Steps.{wants_memory, Stands, AnswersRequest, HandsItem, HandsItems}

not_memory : (at : ℕ) (why : Refusal) → wants_memory (Refused at why) ≡ false → why ≡ OutOfMemory → ⊥
not_memory at why told e = absurd (true_false (subst (λ (w : Refusal). wants_memory (Refused at w) ≡ false) e told))
  where
    true_false : true ≡ false → ⊥
    true_false h = absurd cc

told_why : (bridge : Bridge) (call : CallOf) (at : ℕ) (why : Refusal) → IsTold bridge.calls call why
    → wants_memory (Refused at why) ≡ false → refusal_of bridge.calls call ≡ Some why
told_why bridge (Apply command) at why by told = by.0 (not_memory at why told)
told_why bridge (Group commands) at why by told = by.0 (not_memory at why told)
told_why bridge (Undo last) at why by told = by
told_why bridge (Redo last) at why by told = by
told_why bridge (Revert number) at why by told = by.0 (not_memory at why told)

-- the desk that a step publishes is the one that the calls leave
accepted : (old new : CoreOf) (bridge : Bridge) (call : CallOf) → Stands old bridge
    → HasCalled new (history_after bridge.calls call) → length new.lanes ≡ length old.lanes → new.ingress ≡ old.ingress
    → Takes old new (Step.publish new.desk) []
    → Stands new (answer_call bridge (history_after bridge.calls call) None).1
accepted old new bridge call s called lanes ingress takes = record {
  taken =
      subst (λ (d : Desk). HasTaken new (first_desk bridge.who) (bridge.steps ++ Step.publish d ∷ [])) called.desk
      (takes (first_desk bridge.who) bridge.steps s.taken).1;
  called = called;
  lanes = lanes ∙ s.lanes;
  knows = rw ingress s.knows;
  speaks = rw ingress s.speaks;
}

pub call_answered : (op : ℕ) (old new : CoreOf) (bridge : Bridge) (call : CallOf) (reply : Reply) → Stands old bridge
    → Answers old new call reply → IsAnswered bridge.calls new call reply
    → OnAccepted reply (Takes old new (Step.publish new.desk) []) → new.ingress ≡ old.ingress
    → wants_memory reply ≡ false
    → Stands new (bridge_after bridge (DeskRequest op call))
    × (reply_text reply ≡ answer_text bridge (DeskRequest op call))
call_answered op old new bridge call (Accepted number) s does by takes ingress told =
    let next = history_after bridge.calls call in (
      subst (λ (o : Option Refusal). Stands new (answer_call bridge next o).1) (sym by.0)
          (accepted old new bridge call s by.2 (ap length does.2) ingress takes),
      subst (λ (o : Option Refusal). reply_text (Accepted number) ≡ text_of (answer_call bridge next o).0) (sym by.0)
          (ap (λ (n : ℕ). reply_text (Accepted n)) by.1),
    )
call_answered op old new bridge call (Refused at why) s does by takes ingress told =
    let next = history_after bridge.calls call in
    let some : refusal_of bridge.calls call ≡ Some why = told_why bridge call at why by.1 told in (
      subst (λ (o : Option Refusal). Stands new (answer_call bridge next o).1) (sym some) (rw does.1 s),
      subst (λ (o : Option Refusal). reply_text (Refused at why) ≡ text_of (answer_call bridge next o).0) (sym some)
          (ap (λ (n : ℕ). reply_text (Refused n why)) by.0),
    )

-- ---- items

first_same : {A : Type 0} (x y : A) → x ∷ [] ≡ y ∷ [] → x ≡ y
first_same x y e = cc

pub item_answered : (old new : CoreOf) (bridge : Bridge) (item : Input) (out : List Sent) → Stands old bridge
    → Takes old new (Step.item 0 item) (out ∷ []) → new.version ≡ old.version → new.desk ≡ old.desk
    → new.history ≡ old.history → new.done ≡ old.done → new.undone ≡ old.undone
    → length new.lanes ≡ length old.lanes → new.ingress ≡ old.ingress
    → Stands new (after_item bridge item) × (out ≡ item_sent bridge item)
item_answered old new bridge item out s takes version desk history done undone lanes ingress =
    let start = first_desk bridge.who in
    let t = takes start bridge.steps s.taken in
    let sends : List Sent =
    sends_at bridge.who 0 1 (visits 0 start bridge.steps) (visit_after start bridge.steps 0 item) in
    let same : out ≡ sends =
    first_same out sends (subst (λ (n : ℕ). out ∷ [] ≡ sent_at bridge.who n start bridge.steps (Step.item 0 item))
    s.lanes (subst (λ (who : Asker). out ∷ [] ≡ sent_at who (length old.lanes) start bridge.steps (Step.item 0 item))
    s.speaks t.0)) in (
      record {
        taken = t.1;
        called =
            record {
              version = version ∙ s.called.version;
              history = history ∙ s.called.history;
              desk = desk ∙ s.called.desk;
              follows = rw done s.called.follows;
              ahead = rw undone s.called.ahead;
            };
        lanes = lanes ∙ s.lanes;
        knows = rw ingress s.knows;
        speaks = rw ingress s.speaks;
      },
      same,
    )

-- ---- items, one after another

items_last : (bridge : Bridge) (items : List Input) (item : Input)
    → items_sent bridge (items ++ item ∷ []) ≡ items_sent bridge items ++ item_sent (after_items bridge items) item ∷ []
items_last bridge [] item = refl
items_last bridge (i ∷ items) item =
    ap (λ (out : List (List Sent)). item_sent bridge i ∷ out) (items_last (after_item bridge i) items item)

after_last : (bridge : Bridge) (items : List Input) (item : Input)
    → after_items bridge (items ++ item ∷ []) ≡ after_item (after_items bridge items) item
after_last bridge [] item = refl
after_last bridge (i ∷ items) item = after_last (after_item bridge i) items item

text_last : (out : List (List Sent)) (last : List Sent)
    → items_text (out ++ last ∷ []) ≡ items_text out ++ flat_map sent_text last
text_last [] last = append-nil (flat_map sent_text last)
text_last (o ∷ out) last =
    ap (λ (t : List ℕ). flat_map sent_text o ++ t) (text_last out last)
    ∙ sym (append_assoc (flat_map sent_text o) (items_text out) (flat_map sent_text last))

-- nothing was handed over
pub hands_none : (core : CoreOf) (text : List ℕ) → HandsItems core [] core text text
hands_none core text bridge s = (s, sym (append-nil text))

-- one more item
pub hands_more : (old mid new : CoreOf) (items : List Input) (item : Input) (before text now : List ℕ)
    → HandsItems old items mid before text → HandsItem mid item new text now
    → HandsItems old (items ++ item ∷ []) new before now
hands_more old mid new items item before text now h k bridge s =
    let first = h bridge s in
    let then = k (after_items bridge items) first.0 in
    let one = item_sent (after_items bridge items) item in (
      subst (λ (b : Bridge). Stands new b) (sym (after_last bridge items item)) then.0,
      then.1
          ∙ (ap (λ (t : List ℕ). t ++ flat_map sent_text one) first.1
          ∙ (append_assoc before (items_text (items_sent bridge items)) (flat_map sent_text one)
          ∙ ap (λ (t : List ℕ). before ++ t)
          (sym (text_last (items_sent bridge items) one) ∙ ap items_text (sym (items_last bridge items item))))),
    )

-- ---- what the receive side knows

-- nothing of the core is another, but for its ingress
abbrev pub IsElse : CoreOf → CoreOf → Type 0
IsElse old new =
    (new.version ≡ old.version) × (new.desk ≡ old.desk) × (new.done ≡ old.done) × (new.undone ≡ old.undone)
    × (new.lanes ≡ old.lanes) × (new.history ≡ old.history)

now_knows : (old new : CoreOf) (bridge : Bridge) (sources : Sources) → IsElse old new
    → new.ingress.asker ≡ old.ingress.asker → Knows new.ingress sources → Stands old bridge
    → Stands new (knowing sources bridge)
now_knows old new bridge sources others asker knows s = record {
  taken = record {
    version = others.0 ∙ s.taken.version;
    desk = others.1 ∙ s.taken.desk;
    lanes = λ lane state at.
        s.taken.lanes lane state (subst (λ (lanes : List LaneOf). slice_get lanes lane ≡ Some state) others.4 at);
  };
  called =
      record {
        version = others.0 ∙ s.called.version;
        history = others.5 ∙ s.called.history;
        desk = others.1 ∙ s.called.desk;
        follows = rw others.2 s.called.follows;
        ahead = rw others.3 s.called.ahead;
      };
  lanes = ap length others.4 ∙ s.lanes;
  knows = knows;
  speaks = asker ∙ s.speaks;
}

-- ---- datagrams

pub datagram_answered : (old mid new : CoreOf) (moment : ℕ) (from : Address) (octets : List ℕ) (ingested : Ingested)
    (before now : List ℕ)
    → TakesIn old.ingress mid.ingress ingested octets
    (λ r. record { desk = old.desk; from = from; moment = moment; reading = r })
    → IsElse old mid → mid.ingress.asker ≡ old.ingress.asker
    → before ≡ outcome_text ingested.outcome ++ flat_map up_text ingested.up
    → HandsItems mid ingested.items new before now → AnswersRequest old (Rx moment from octets) new now
datagram_answered old mid new moment from octets ingested before now takes others asker text hands bridge heard s =
    let desk : old.desk ≡ desk_now bridge.calls = s.called.desk in
    let took =
    takes (bridge.decoding.reading octets) heard.reads (voice_of bridge.who bridge.decoding) bridge.sources
    (heard.names bridge.who) (sym s.speaks) s.knows in
    let here = taken_at bridge moment from octets in
    let same : ingested ≡ here.0 =
    took.0
    ∙ ap
    (λ (d : Desk).
    (taken_in (voice_of bridge.who bridge.decoding) bridge.sources
    (record { desk = d; from = from; moment = moment; reading = bridge.decoding.reading octets })).0)
    desk in
    let knows : Knows mid.ingress here.1 =
    subst
    (λ (d : Desk).
    Knows mid.ingress (taken_in (voice_of bridge.who bridge.decoding) bridge.sources
    (record { desk = d; from = from; moment = moment; reading = bridge.decoding.reading octets })).1)
    desk took.1 in
    let h = hands (knowing here.1 bridge) (now_knows old mid bridge here.1 others asker knows s) in
    subst
    (λ (i : Ingested).
    Stands new (after_items (knowing here.1 bridge) i.items)
    × (now
    ≡ outcome_text i.outcome ++ flat_map up_text i.up ++ items_text (items_sent (knowing here.1 bridge) i.items)))
    same
    (h.0, h.1 ∙ ap (λ (t : List ℕ). t ++ items_text (items_sent (knowing here.1 bridge) ingested.items)) text)

-- ---- waits

pub wait_answered : (old mid new : CoreOf) (moment : ℕ) (from : Address) (ssrc : ℕ) (freed : Ingested)
    (before now : List ℕ)
    → WaitsFor old.ingress mid.ingress freed old.desk (origin_at from ssrc) moment → IsElse old mid
    → mid.ingress.asker ≡ old.ingress.asker
    → before ≡ flat_map up_text freed.up → HandsItems mid freed.items new before now
    → AnswersRequest old (Wait moment from ssrc) new now
wait_answered old mid new moment from ssrc freed before now goes_by others asker text hands bridge heard s =
    let desk : old.desk ≡ desk_now bridge.calls = s.called.desk in
    let went = goes_by (voice_of bridge.who bridge.decoding) bridge.sources (heard bridge.who) (sym s.speaks) s.knows in
    let here = waited_at bridge moment (origin_at from ssrc) in
    let same : freed ≡ here.0 =
    went.0
    ∙ ap
    (λ (d : Desk). (waited_for (voice_of bridge.who bridge.decoding) d (origin_at from ssrc) moment bridge.sources).0)
    desk in
    let knows : Knows mid.ingress here.1 =
    subst
    (λ (d : Desk).
    Knows mid.ingress
    (waited_for (voice_of bridge.who bridge.decoding) d (origin_at from ssrc) moment bridge.sources).1)
    desk went.1 in
    let h = hands (knowing here.1 bridge) (now_knows old mid bridge here.1 others asker knows s) in
    subst
    (λ (i : Ingested).
    Stands new (after_items (knowing here.1 bridge) i.items)
    × (now ≡ flat_map up_text i.up ++ items_text (items_sent (knowing here.1 bridge) i.items)))
    same
    (h.0, h.1 ∙ ap (λ (t : List ℕ). t ++ items_text (items_sent (knowing here.1 bridge) freed.items)) text)

-- ---- reports

pub report_answered : (old mid new : CoreOf) (moment : ℕ) (up : List (Address × List ℕ)) (before now : List ℕ)
    → TellsSenders old.ingress mid.ingress up old.desk moment → IsElse old mid → mid.ingress.asker ≡ old.ingress.asker
    → before ≡ flat_map up_text up → HandsItem mid (report moment) new before now
    → AnswersRequest old (Report moment) new now
report_answered old mid new moment up before now tells others asker text hands bridge heard s =
    let here = reported_at bridge moment in
    let desk : old.desk ≡ desk_now bridge.calls = s.called.desk in
    let told = tells bridge.sources s.knows in
    let is : reported old.ingress.asker old.desk moment bridge.sources ≡ here =
    ap (λ (who : Asker). reported who old.desk moment bridge.sources) s.speaks
    ∙ ap (λ (d : Desk). reported bridge.who d moment bridge.sources) desk in
    let same : up ≡ here.0 = told.0 ∙ ap (λ (r : List (Address × List ℕ) × Sources). r.0) is in
    let knows : Knows mid.ingress here.1 =
    subst (λ (r : List (Address × List ℕ) × Sources). Knows mid.ingress r.1) is told.1 in
    let h = hands (knowing here.1 bridge) (now_knows old mid bridge here.1 others asker knows s) in (
      h.0,
      h.1
          ∙ ap (λ (t : List ℕ). t ++ flat_map sent_text (item_sent (knowing here.1 bridge) (report moment)))
          (text ∙ ap (λ (u : List (Address × List ℕ)). flat_map up_text u) same),
    )

-- ---- rows

pub rows_shown : (core : CoreOf) (bridge : Bridge) → Stands core bridge
    → show_text core.desk core.version ≡ answer_text bridge Show
rows_shown core bridge s =
    ap (λ (d : Desk). show_text d core.version) s.called.desk ∙ ap (show_text (desk_now bridge.calls)) s.called.version

-- ---- the first line

pub opens : (core : CoreOf) (decoding : Decoding) (who : Asker) → HasTaken core (first_desk who) []
    → HasCalled core (no_calls (first_desk who)) → length core.lanes ≡ 1 → Knows core.ingress no_sources
    → core.ingress.asker ≡ who → Stands core (begun_bridge decoding who)
opens core decoding who taken called lanes knows speaks =
    record { taken = taken; called = called; lanes = lanes; knows = knows; speaks = speaks }

-- what follows from what holds of a success
pub on_ok : {X E : Type 0} (r : Result X E) (P Q : Type 0) → OnOk r P → (P → Q) → OnOk r Q
on_ok (Ok x) P Q h f = f h
on_ok (Err e) P Q h f = tt

-- what all items are, each is
pub each_sized : {X : Type 0} (f : X → Input) (xs : List X) (i : ℕ) (x : X) → list_all is_sized (map f xs) ≡ true
    → i < length xs → x ≡ get_or xs i x → is_sized (f x) ≡ true
each_sized f [] i x all less is = absurd (omega (arith, less))
each_sized f (y ∷ ys) zero x all less is =
    ap (λ z. is_sized (f z)) is ∙ (and_parts (is_sized (f y)) (list_all is_sized (map f ys)) all).0
each_sized f (y ∷ ys) (suc i) x all less is =
    each_sized f ys i x (and_parts (is_sized (f y)) (list_all is_sized (map f ys)) all).1 (omega (arith, less)) is
