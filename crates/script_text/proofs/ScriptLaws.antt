-- A script's packets are the core's.
use Rattle.std.proofs.Common.{◌≡◌, ℕ, ◌+◌, ◌≤◌, ◌==◌, Bool, true, false, arith, subst, List, [], ◌∷◌, ◌++◌, Option}
use Rattle.std.proofs.Common.{Some, None, Result, Ok, Err, refl, sym, ap, ◌∙◌, append_assoc}
use Rattle.std.specs.List.{flat_map}
use Rattle.std.proofs.lemmas.List.{append-nil}
use Rattle.desk_edit.specs.declared.refusal.Refusal.{Refusal}
use Rattle.desk_edit.specs.Calls.{CallHistory, refusal_of, after_call as history_after}
use Rattle.bridge_core.specs.Sent.{Sent}
use Rattle.bridge_core.specs.Steps.{Step, along, sent_at, sends}
use Rattle.desk_text.specs.declared.fault.Fault.{Fault}
use Rattle.media_items.specs.Inputs.{Input}
use Rattle.media_items.specs.Inputs.Input.{report, renew}
use Rattle.sender_feedback.specs.Upstream.{Asker}
use Rattle.std.proofs.lemmas.Bool.{ne_eqb}
use Rattle.ingress.specs.Ingested.{Ingested}
use Rattle.ingress.specs.Sources.{Sources}
use Rattle.desk_text.specs.Lines.{lines_of}
use Rattle.script_text.specs.Requests.{Request, Nothing, Begin, Desk, Item, Rx, Wait, Report, Show}
use Rattle.script_text.specs.FirstLine.{request_at}
use Rattle.script_text.specs.Decodings.{Decoding}
use Rattle.script_text.specs.Bridge.{Bridge, first_desk, begun_bridge, opening_bridge, Answer, silence, replied, sent}
use Rattle.script_text.specs.Bridge.{heard, waited, reports, shown, text_of, answer_call, item_sent, after_item}
use Rattle.script_text.specs.Bridge.{items_sent, after_items, knowing, answer_datagram, taken_at, answer_wait}
use Rattle.script_text.specs.Bridge.{waited_at, origin_at, answer, bridge_after}
use Rattle.script_text.specs.Output.{RunOutput, continues, outcome_of, output_of}
use Rattle.script_text.specs.Scripts.{followed, requests_from, requests_of, named_by, speaker_of, answers_to, after_all}
use Rattle.script_text.specs.Scripts.{sent_in, answers_of, steps_of}
use Rattle.script_text.proofs.FirstLineLemmas.{later_never_begins}

-- ---- the text

text_on : (bridge : Bridge) (number : ℕ) (read : Result Request (ℕ × Fault)) (others : Bridge → RunOutput)
    (requests : List Request)
    → ((b : Bridge) → (others b).text ≡ flat_map text_of (answers_to b requests))
    → (continues number bridge read others).text ≡ flat_map text_of (answers_to bridge (followed read requests))
text_on bridge number (Ok request) others requests h =
    ap (λ (t : List ℕ). text_of (answer bridge request).0 ++ t) (h (bridge_after bridge request))
text_on bridge number (Err e) others requests h = refl

text_from : (bridge : Bridge) (number : ℕ) (lines : List (List ℕ))
    → (outcome_of bridge number lines).text ≡ flat_map text_of (answers_to bridge (requests_from number lines))
unfolding outcome_of requests_from
text_from bridge number [] = refl
text_from bridge number (line ∷ lines) =
    text_on bridge number (request_at number line) (λ b. outcome_of b (number + 1) lines)
    (requests_from (number + 1) lines) (λ b. text_from b (number + 1) lines)

pub text_told : (decoding : Decoding) (input : List ℕ)
    → (output_of decoding input).text ≡ flat_map text_of (answers_of decoding input)
text_told decoding input = text_from (opening_bridge decoding) 1 (lines_of input)

-- ---- what is sent

-- what a bridge of this name sends over these steps
abbrev sends_by : Asker → List Step → List (List Sent)
sends_by who steps = sends who 1 (first_desk who) steps

along_last : {X : Type 0} (at : List Step → Step → List X) (before steps : List Step) (step : Step)
    → along at before (steps ++ step ∷ []) ≡ along at before steps ++ at (before ++ steps) step
along_last at before [] step = append-nil (at before step) ∙ ap (λ (b : List Step). at b step) (sym (append-nil before))
along_last at before (s ∷ steps) step =
    ap (λ (t : List _). at before s ++ t) (along_last at (before ++ s ∷ []) steps step)
    ∙ (sym (append_assoc (at before s) (along at (before ++ s ∷ []) steps) (at ((before ++ s ∷ []) ++ steps) step))
    ∙ ap (λ (b : List Step). (at before s ++ along at (before ++ s ∷ []) steps) ++ at b step)
    (append_assoc before (s ∷ []) steps))

sends_last : (who : Asker) (steps : List Step) (step : Step)
    → sends_by who (steps ++ step ∷ []) ≡ sends_by who steps ++ sent_at who 1 (first_desk who) steps step
sends_last who steps step = along_last (sent_at who 1 (first_desk who)) [] steps step

call_sends : (bridge : Bridge) (next : CallHistory) (why : Option Refusal)
    → sends_by bridge.who (answer_call bridge next why).1.steps
    ≡ sends_by bridge.who bridge.steps ++ sent_in ((answer_call bridge next why).0 ∷ [])
call_sends bridge next None = sends_last bridge.who bridge.steps _
call_sends bridge next (Some why) = sym (append-nil (sends_by bridge.who bridge.steps))

items_send : (bridge : Bridge) (items : List Input)
    → sends_by bridge.who (after_items bridge items).steps ≡ sends_by bridge.who bridge.steps ++ items_sent bridge items
items_send bridge [] = sym (append-nil (sends_by bridge.who bridge.steps))
items_send bridge (item ∷ items) =
    items_send (after_item bridge item) items
    ∙ (ap (λ (t : List (List Sent)). t ++ items_sent (after_item bridge item) items)
    (sends_last bridge.who bridge.steps (Step.item 0 item))
    ∙ append_assoc (sends_by bridge.who bridge.steps) (item_sent bridge item ∷ [])
    (items_sent (after_item bridge item) items))

received : (bridge : Bridge) (ingested : Ingested) (sources : Sources)
    → sends_by bridge.who (answer_datagram bridge ingested sources).1.steps
    ≡ sends_by bridge.who bridge.steps ++ sent_in ((answer_datagram bridge ingested sources).0 ∷ [])
received bridge ingested sources =
    let known = knowing sources bridge in
    items_send known ingested.items
    ∙ ap (λ (t : List (List Sent)). sends_by bridge.who bridge.steps ++ t)
    (sym (append-nil (items_sent known ingested.items)))

freed_send : (bridge : Bridge) (freed : Ingested) (sources : Sources)
    → sends_by bridge.who (answer_wait bridge freed sources).1.steps
    ≡ sends_by bridge.who bridge.steps ++ sent_in ((answer_wait bridge freed sources).0 ∷ [])
freed_send bridge freed sources =
    let known = knowing sources bridge in
    items_send known freed.items
    ∙ ap (λ (t : List (List Sent)). sends_by bridge.who bridge.steps ++ t)
    (sym (append-nil (items_sent known freed.items)))

-- it is no line that says who the bridge is
abbrev IsLater : Request → Type 0
IsLater request = (who : Asker) (renews : Bool) → request ≡ Begin who renews → ⊥

one_sends : (bridge : Bridge) (request : Request) → IsLater request
    → sends_by bridge.who (bridge_after bridge request).steps
    ≡ sends_by bridge.who bridge.steps ++ sent_in ((answer bridge request).0 ∷ [])
one_sends bridge (Begin who renews) later = absurd (later who renews refl)
one_sends bridge Nothing later = sym (append-nil (sends_by bridge.who bridge.steps))
one_sends bridge Show later = sym (append-nil (sends_by bridge.who bridge.steps))
one_sends bridge (Desk op call) later =
    call_sends bridge (history_after bridge.calls call) (refusal_of bridge.calls call)
one_sends bridge (Item item) later = sends_last bridge.who bridge.steps (Step.item 0 item)
one_sends bridge (Rx moment from octets) later =
    received bridge (taken_at bridge moment from octets).0 (taken_at bridge moment from octets).1
one_sends bridge (Wait moment from ssrc) later =
    let here = waited_at bridge moment (origin_at from ssrc) in
    freed_send bridge here.0 here.1
one_sends bridge (Report moment) later = sends_last bridge.who bridge.steps (Step.item 0 (report moment))

sent_first : (a : Answer) (others : List Answer) → sent_in (a ∷ others) ≡ sent_in (a ∷ []) ++ sent_in others
sent_first silence others = refl
sent_first (replied reply) others = refl
sent_first (sent out) others = refl
sent_first (heard outcome up out) others = ap (λ (t : List (List Sent)). t ++ sent_in others) (sym (append-nil out))
sent_first (waited up out) others = ap (λ (t : List (List Sent)). t ++ sent_in others) (sym (append-nil out))
sent_first (reports up out) others = refl
sent_first (shown desk version) others = refl

-- none of them is a line that says who the bridge is
abbrev AreLater : List Request → Type 0
AreLater [] = Unit {0}
AreLater (request ∷ requests) = IsLater request × AreLater requests

items_who : (bridge : Bridge) (items : List Input) → (after_items bridge items).who ≡ bridge.who
items_who bridge [] = refl
items_who bridge (item ∷ items) = items_who (after_item bridge item) items

call_who : (bridge : Bridge) (next : CallHistory) (why : Option Refusal)
    → (answer_call bridge next why).1.who ≡ bridge.who
call_who bridge next None = refl
call_who bridge next (Some why) = refl

same_who : (bridge : Bridge) (request : Request) → IsLater request → (bridge_after bridge request).who ≡ bridge.who
same_who bridge Nothing later = refl
same_who bridge Show later = refl
same_who bridge (Begin who renews) later = absurd (later who renews refl)
same_who bridge (Desk op call) later = call_who bridge (history_after bridge.calls call) (refusal_of bridge.calls call)
same_who bridge (Item item) later = refl
same_who bridge (Report moment) later = refl
same_who bridge (Rx moment from octets) later =
    let here = taken_at bridge moment from octets in items_who (knowing here.1 bridge) here.0.items
same_who bridge (Wait moment from ssrc) later =
    let here = waited_at bridge moment (origin_at from ssrc) in items_who (knowing here.1 bridge) here.0.items

all_sends : (bridge : Bridge) (requests : List Request) → AreLater requests
    → sends_by bridge.who (after_all bridge requests).steps
    ≡ sends_by bridge.who bridge.steps ++ sent_in (answers_to bridge requests)
all_sends bridge [] later = sym (append-nil (sends_by bridge.who bridge.steps))
all_sends bridge (request ∷ requests) later =
    let after = bridge_after bridge request in
    let others = sent_in (answers_to after requests) in
    subst (λ (who : Asker). sends_by who (after_all after requests).steps ≡ sends_by who after.steps ++ others)
    (same_who bridge request later.0) (all_sends after requests later.1)
    ∙ (ap (λ (t : List (List Sent)). t ++ others) (one_sends bridge request later.0)
    ∙ (append_assoc (sends_by bridge.who bridge.steps) (sent_in ((answer bridge request).0 ∷ [])) others
    ∙ ap (λ (t : List (List Sent)). sends_by bridge.who bridge.steps ++ t)
    (sym (sent_first (answer bridge request).0 (answers_to after requests)))))

-- ---- the first line

not_first : (number : ℕ) → 2 ≤ number → (number == 1) ≡ false
not_first number more = ne_eqb number 1 (λ e. omega (arith, more, e))

followed_later : (read : Result Request (ℕ × Fault)) (others : List Request)
    → ((who : Asker) (renews : Bool) → read ≡ Ok (Begin who renews) → ⊥) → AreLater others
    → AreLater (followed read others)
followed_later (Ok request) others never later = (λ who renews e. never who renews (ap Ok e), later)
followed_later (Err e) others never later = tt

all_later : (number : ℕ) (lines : List (List ℕ)) → 2 ≤ number → AreLater (requests_from number lines)
unfolding requests_from
all_later number [] more = tt
all_later number (line ∷ lines) more =
    followed_later (request_at number line) (requests_from (number + 1) lines)
    (λ who renews e. later_never_begins number line who renews (not_first number more) e)
    (all_later (number + 1) lines (omega (arith, more)))

-- a request for the bridge of this script, and others that say nothing of it
first_sends : (decoding : Decoding) (request : Request) (others : List Request) → AreLater others
    → sent_in (answers_to (opening_bridge decoding) (request ∷ others))
    ≡ sends_by (named_by (request ∷ others)) (after_all (opening_bridge decoding) (request ∷ others)).steps
first_sends decoding Nothing others later = sym (all_sends (opening_bridge decoding) others later)
first_sends decoding (Begin who false) others later = sym (all_sends (begun_bridge decoding who) others later)
first_sends decoding (Begin who true) others later =
    sym (all_sends (after_item (begun_bridge decoding who) renew) others later)
first_sends decoding (Desk op call) others later =
    sym (all_sends (opening_bridge decoding) (Desk op call ∷ others) (λ who renews e. absurd cc, later))
first_sends decoding (Item item) others later =
    sym (all_sends (opening_bridge decoding) (Item item ∷ others) (λ who renews e. absurd cc, later))
first_sends decoding (Rx moment from octets) others later =
    sym (all_sends (opening_bridge decoding) (Rx moment from octets ∷ others) (λ who renews e. absurd cc, later))
first_sends decoding (Wait moment from ssrc) others later =
    sym (all_sends (opening_bridge decoding) (Wait moment from ssrc ∷ others) (λ who renews e. absurd cc, later))
first_sends decoding (Report moment) others later =
    sym (all_sends (opening_bridge decoding) (Report moment ∷ others) (λ who renews e. absurd cc, later))
first_sends decoding Show others later = sym (all_sends (opening_bridge decoding) others later)

read_sends : (decoding : Decoding) (read : Result Request (ℕ × Fault)) (others : List Request) → AreLater others
    → sent_in (answers_to (opening_bridge decoding) (followed read others))
    ≡ sends_by (named_by (followed read others)) (after_all (opening_bridge decoding) (followed read others)).steps
read_sends decoding (Ok request) others later = first_sends decoding request others later
read_sends decoding (Err e) others later = refl

lines_send : (decoding : Decoding) (lines : List (List ℕ))
    → sent_in (answers_to (opening_bridge decoding) (requests_of lines))
    ≡ sends_by (named_by (requests_of lines)) (after_all (opening_bridge decoding) (requests_of lines)).steps
unfolding requests_from
lines_send decoding [] = refl
lines_send decoding (line ∷ lines) =
    read_sends decoding (request_at 1 line) (requests_from 2 lines) (all_later 2 lines (omega arith))

pub sends_told : (decoding : Decoding) (input : List ℕ)
    → sent_in (answers_of decoding input)
    ≡ sends (speaker_of input) 1 (first_desk (speaker_of input)) (steps_of decoding input)
sends_told decoding input = lines_send decoding (lines_of input)
