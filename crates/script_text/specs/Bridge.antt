-- The bridge of a script: the history of its calls and the steps so far, what is written for a request, and what the
-- bridge is afterwards (own).
use Rattle.std.specs.Prelude.{ℕ, ◌+◌, Bool, true, false, List, [], ◌∷◌, ◌++◌, fold, Option, Some, None}
use Rattle.std.specs.List.{flat_map}
use Rattle.desk_rows.specs.Desk.{Desk, blank}
use Rattle.desk_edit.specs.declared.refusal.Refusal.{Refusal}
use Rattle.desk_edit.specs.Calls.{CallHistory, no_calls, desk_now, refusal_of, after_call as history_after}
use Rattle.desk_calls.specs.declared.reply.Reply.{Reply}
use Rattle.desk_calls.specs.declared.reply.Reply.TheVariants.{Accepted, Refused}
use Rattle.rtp_codec.specs.declared.address.Address.{Address}
use Rattle.ingress.specs.declared.outcome.Outcome.{Outcome}
use Rattle.media_items.specs.Inputs.{Input}
use Rattle.media_items.specs.Inputs.Input.{report, renew}
use Rattle.sender_feedback.specs.Upstream.{Asker}
use Rattle.ingress.specs.Ingested.{Ingested}
use Rattle.ingress.specs.Sources.{Origin, Sources, no_sources}
use Rattle.ingress.specs.Taking.{Datagram, taken_in}
use Rattle.ingress.specs.Waiting.{waited_for}
use Rattle.ingress.specs.Reported.{reported}
use Rattle.bridge_core.specs.Sent.{Sent}
use Rattle.bridge_core.specs.Lanes.{sends_at}
use Rattle.bridge_core.specs.Steps.{Step, visits, visit_after}
use Rattle.desk_text.specs.Text.{reply_text}
use Rattle.desk_text.specs.RowLines.{show_text}
use Rattle.script_text.specs.Requests.{Request, Nothing, Begin, Desk as DeskRequest, Item, Rx, Wait, Report, Show}
use Rattle.script_text.specs.SentLines.{sent_text}
use Rattle.script_text.specs.Datagrams.{outcome_text, up_text}
use Rattle.script_text.specs.Decodings.{Decoding, script_asker, voice_of}

-- the bridge between two lines: how it decodes datagrams, who it is, what its calls have led to, the accepted calls and
-- the items so far, and the sources that it knows
pub record Bridge : Type 0 where
  pub decoding : Decoding
  pub who : Asker
  pub calls : CallHistory
  pub steps : List Step
  pub sources : Sources

-- the desk before any call
abbrev pub first_desk : Asker → Desk
first_desk who = blank who.ssrc

-- a bridge that is this one, and to which nothing has come
abbrev pub begun_bridge : Decoding → Asker → Bridge
begun_bridge decoding who = record {
  decoding = decoding;
  who = who;
  calls = no_calls (first_desk who);
  steps = [];
  sources = no_sources;
}

-- the bridge before any line
abbrev pub opening_bridge : Decoding → Bridge
opening_bridge decoding = begun_bridge decoding script_asker

-- the answer to a request: nothing, a reply, what is sent, a datagram's outcome with what is sent back and what is sent
-- for each item, the same of a wait, which has no outcome, receiver reports with the sender reports of the lane, or a
-- desk with its version
pub data Answer : Type 0 where
  silence : Answer
  replied : Reply → Answer
  sent : List Sent → Answer
  heard : Outcome → List (Address × List ℕ) → List (List Sent) → Answer
  waited : List (Address × List ℕ) → List (List Sent) → Answer
  reports : List (Address × List ℕ) → List Sent → Answer
  shown : Desk → ℕ → Answer

-- how that is written which goes out for each item
abbrev pub items_text : List (List Sent) → List ℕ
items_text out = flat_map (flat_map sent_text) out

-- how an answer is written
abbrev pub text_of : Answer → List ℕ
text_of silence = []
text_of (replied reply) = reply_text reply
text_of (sent out) = flat_map sent_text out
text_of (heard outcome up out) = outcome_text outcome ++ flat_map up_text up ++ items_text out
text_of (waited up out) = flat_map up_text up ++ items_text out
text_of (reports up out) = flat_map up_text up ++ flat_map sent_text out
text_of (shown desk version) = show_text desk version

-- an accepted call takes the next number and publishes the desk that it leaves; a refused one names the version and
-- changes nothing
abbrev pub answer_call : Bridge → CallHistory → Option Refusal → Answer × Bridge
answer_call bridge next None = (
  replied (Accepted (bridge.calls.accepted + 1)),
  record bridge { calls = next; steps = bridge.steps ++ Step.publish (desk_now next) ∷ [] },
)
answer_call bridge next (Some why) = (replied (Refused bridge.calls.accepted why), bridge)

-- what lane 0 of 1 sends for an item
abbrev pub item_sent : Bridge → Input → List Sent
item_sent bridge item =
    sends_at bridge.who 0 1 (visits 0 (first_desk bridge.who) bridge.steps)
    (visit_after (first_desk bridge.who) bridge.steps 0 item)

-- the bridge after an item
abbrev pub after_item : Bridge → Input → Bridge
after_item bridge item = record bridge { steps = bridge.steps ++ Step.item 0 item ∷ [] }

-- what the lane sends for items, one after another, each on its own
abbrev pub items_sent : Bridge → List Input → List (List Sent)
items_sent bridge [] = []
items_sent bridge (item ∷ items) = item_sent bridge item ∷ items_sent (after_item bridge item) items

-- the bridge after them
abbrev pub after_items : Bridge → List Input → Bridge
after_items bridge items = fold after_item bridge items

-- the bridge, knowing these sources
abbrev pub knowing : Sources → Bridge → Bridge
knowing sources bridge = record bridge { sources = sources }

-- the answer to a datagram with this result, if the bridge knows these sources from then on
abbrev pub answer_datagram : Bridge → Ingested → Sources → Answer × Bridge
answer_datagram bridge ingested sources = (
  heard ingested.outcome ingested.up (items_sent (knowing sources bridge) ingested.items),
  after_items (knowing sources bridge) ingested.items,
)

-- a datagram that comes at a moment from an address, by the present desk
abbrev pub datagram_at : Bridge → (moment : ℕ) → Address → List ℕ → Datagram
datagram_at bridge moment from octets =
    record { desk = desk_now bridge.calls; from = from; moment = moment; reading = bridge.decoding.reading octets }

-- its result, and the sources after it
abbrev pub taken_at : Bridge → (moment : ℕ) → Address → List ℕ → Ingested × Sources
taken_at bridge moment from octets =
    taken_in (voice_of bridge.who bridge.decoding) bridge.sources (datagram_at bridge moment from octets)

-- the answer to a wait with this result, if the bridge knows these sources from then on: the lane is given the frames
-- that the wait freed
abbrev pub answer_wait : Bridge → Ingested → Sources → Answer × Bridge
answer_wait bridge freed sources = (
  waited freed.up (items_sent (knowing sources bridge) freed.items),
  after_items (knowing sources bridge) freed.items,
)

-- what a wait for a source until a moment gives, by the present desk, and the sources after it
abbrev pub waited_at : Bridge → (moment : ℕ) → Origin → Ingested × Sources
waited_at bridge moment origin =
    waited_for (voice_of bridge.who bridge.decoding) (desk_now bridge.calls) origin moment bridge.sources

-- the source of an SSRC at an address
abbrev pub origin_at : Address → (ssrc : ℕ) → Origin
origin_at from ssrc = record { address = from; ssrc = ssrc }

-- the reports to senders on their sources at a moment, and the sources after it
abbrev pub reported_at : Bridge → (moment : ℕ) → List (Address × List ℕ) × Sources
reported_at bridge moment = reported bridge.who (desk_now bridge.calls) moment bridge.sources

-- the answer with these reports to senders, if the bridge knows these sources from then on: the lane is given the
-- report as an item
abbrev pub answer_report : Bridge → (moment : ℕ) → List (Address × List ℕ) → Sources → Answer × Bridge
answer_report bridge moment up sources = (
  reports up (item_sent (knowing sources bridge) (report moment)),
  after_item (knowing sources bridge) (report moment),
)

-- the answer of a bridge that has just begun_bridge: where its buffers are to begin anew, the lane is told so by an
-- item
abbrev pub answer_begin : Bridge → (renews : Bool) → Answer × Bridge
answer_begin bridge false = (silence, bridge)
answer_begin bridge true = (sent (item_sent bridge renew), after_item bridge renew)

-- the answer to a request, and the bridge after it
abbrev pub answer : Bridge → Request → Answer × Bridge
answer bridge Nothing = (silence, bridge)
answer bridge (Begin who renews) = answer_begin (begun_bridge bridge.decoding who) renews
answer bridge (DeskRequest op call) =
    answer_call bridge (history_after bridge.calls call) (refusal_of bridge.calls call)
answer bridge (Item item) = (sent (item_sent bridge item), after_item bridge item)
answer bridge (Rx moment from octets) =
    answer_datagram bridge (taken_at bridge moment from octets).0 (taken_at bridge moment from octets).1
answer bridge (Wait moment from ssrc) =
    answer_wait bridge (waited_at bridge moment (origin_at from ssrc)).0
    (waited_at bridge moment (origin_at from ssrc)).1
answer bridge (Report moment) = answer_report bridge moment (reported_at bridge moment).0 (reported_at bridge moment).1
answer bridge Show = (shown (desk_now bridge.calls) bridge.calls.accepted, bridge)

-- what is written for a request
abbrev pub answer_text : Bridge → Request → List ℕ
answer_text bridge request = text_of (answer bridge request).0

-- the bridge after a request
abbrev pub bridge_after : Bridge → Request → Bridge
bridge_after bridge request = (answer bridge request).1
