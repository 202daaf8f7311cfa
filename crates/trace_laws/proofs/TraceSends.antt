-- What the script of a lane sends.
use Rattle.std.proofs.Common.{◌≡◌, ℕ, ◌+◌, ◌-◌, List, [], ◌∷◌, ◌++◌, length, map, take, drop, max}
use Rattle.std.proofs.Common.{Option, refl, sym, ap, ◌∙◌, subst, arith, append_assoc}
use Rattle.std.specs.List.{flat_map}
use Rattle.std.proofs.lemmas.List.{append-nil, take-append-drop, drop-drop, drop-map, take-map, length-map}
use Rattle.desk_rows.specs.Desk.{Desk}
use Rattle.desk_edit.specs.Asked.{CallOf}
use Rattle.desk_edit.specs.declared.refusal.Refusal.{Refusal}
use Rattle.desk_edit.specs.Calls.{CallHistory, no_calls, desk_now, after_call}
use Rattle.desk_calls.specs.Accepted.{after_calls, AreAccepted}
use Rattle.sender_feedback.specs.Upstream.{Asker}
use Rattle.bridge_core.specs.Sent.{Sent}
use Rattle.bridge_core.specs.Steps.{Step, along, sent_at, sends}
use Rattle.bridge_core.specs.Events.{Event, steps_of as steps_after}
use Rattle.media_workers.specs.LaneRuns.{Versioned}
use Rattle.lane_laws.specs.Merges.{InOrder, UpTo}
use Rattle.lane_laws.specs.Scripts.{script_from}
use Rattle.lane_laws.specs.Replays.{sent_alone}
use Rattle.lane_laws.proofs.ScriptLemmas.{script_is}
use Rattle.script_text.specs.Requests.{Request, Nothing, Item}
use Rattle.script_text.specs.Decodings.{Decoding}
use Rattle.script_text.specs.Bridge.{Bridge, first_desk, begun_bridge, opening_bridge, answer_call, after_item}
use Rattle.script_text.specs.Bridge.{bridge_after}
use Rattle.script_text.specs.Scripts.{named_by, speaker_of, after_all, sent_in, answers_of, steps_of}
use Rattle.script_text.proofs.ScriptLaws.{sends_told}
use Rattle.call_history.specs.AcceptedCall.{AcceptedOf}
use Rattle.trace_scripts.specs.Scripts.{between}
use Rattle.trace_laws.specs.Traces.{IsWritten, AreToldCalls, AreToldItems, call_asked, items_asked, lane_script}
use Rattle.trace_laws.specs.Traces.{lane_asked, asked_calls}
use Rattle.trace_laws.proofs.CallSizes.{all_within}
use Rattle.trace_laws.proofs.TraceReads.{script_read}

-- ---- lists of calls

accepted_front : (h : CallHistory) (cs ds : List CallOf) → AreAccepted h (cs ++ ds) → AreAccepted h cs
accepted_front h [] ds ok = tt
accepted_front h (c ∷ cs) ds ok = (ok.0, accepted_front (after_call h c) cs ds ok.1)

accepted_behind : (h : CallHistory) (cs ds : List CallOf) → AreAccepted h (cs ++ ds)
    → AreAccepted (after_calls h cs) ds
accepted_behind h [] ds ok = ok
accepted_behind h (c ∷ cs) ds ok = accepted_behind (after_call h c) cs ds ok.1

halves : (n : ℕ) (ms : List AcceptedOf) → asked_calls ms ≡ asked_calls (take n ms) ++ asked_calls (drop n ms)
halves n ms =
    sym (take-append-drop n (asked_calls ms))
    ∙ (ap (λ (t : List CallOf). t ++ drop n (asked_calls ms)) (take-map (λ (m : AcceptedOf). m.call) n ms)
    ∙ ap (λ (t : List CallOf). asked_calls (take n ms) ++ t) (drop-map (λ (m : AcceptedOf). m.call) n ms))

-- the calls that are left behind those of a version
left_over : (told version : ℕ) (calls : List AcceptedOf)
    → drop (version - told) (drop told calls) ≡ drop (max told version) calls
left_over told version calls =
    let both : told + (version - told) ≡ max told version = omega arith in
    drop-drop (version - told) told calls ∙ ap (λ (n : ℕ). drop n calls) both

-- ---- the steps of a script

-- what the items of a script are to its bridge, each behind the calls that lead to its version
abbrev led : (told : ℕ) → List AcceptedOf → List Versioned → List Event
led told calls [] = []
led told calls (x ∷ xs) =
    map Event.called (asked_calls (between told x.version calls))
    ++ Event.item 0 x.input ∷ led (max told x.version) calls xs

-- requests are these events to a bridge
abbrev Are : Bridge → List Request → List Event → Type 0
Are b requests events = (after_all b requests).steps ≡ b.steps ++ steps_after b.calls events

calls_are : (b : Bridge) (ms : List AcceptedOf) (requests : List Request) (events : List Event)
    → AreAccepted b.calls (asked_calls ms)
    → ((next : Bridge) → next.calls ≡ after_calls b.calls (asked_calls ms) → Are next requests events)
    → Are b (map call_asked ms ++ requests) (map Event.called (asked_calls ms) ++ events)
calls_are b [] requests events ok others = others b refl
calls_are b (m ∷ ms) requests events ok others =
    let h = after_call b.calls m.call in
    let step = Step.publish (desk_now h) in
    let next : Bridge = record b { calls = h; steps = b.steps ++ step ∷ [] } in
    let is : bridge_after b (call_asked m) ≡ next = ap (λ (why : Option Refusal). (answer_call b h why).1) ok.0 in
    ap (λ (after : Bridge). (after_all after (map call_asked ms ++ requests)).steps) is
    ∙ (calls_are next ms requests events ok.1 others
    ∙ append_assoc b.steps (step ∷ []) (steps_after h (map Event.called (asked_calls ms) ++ events)))

item_is : (b : Bridge) (x : Versioned) (requests : List Request) (events : List Event)
    → Are (after_item b x.input) requests events → Are b (Item x.input ∷ requests) (Event.item 0 x.input ∷ events)
item_is b x requests events others =
    others ∙ append_assoc b.steps (Step.item 0 x.input ∷ []) (steps_after b.calls events)

items_are : (b : Bridge) (told : ℕ) (calls : List AcceptedOf) (items : List Versioned)
    → AreAccepted b.calls (asked_calls (drop told calls))
    → Are b (items_asked told calls items ++ Nothing ∷ []) (led told calls items)
items_are b told calls [] ok = sym (append-nil b.steps)
items_are b told calls (x ∷ xs) ok =
    let left = drop told calls in
    let n : ℕ = x.version - told in
    let before = between told x.version calls in
    let behind = items_asked (max told x.version) calls xs in
    let split : AreAccepted b.calls (asked_calls before ++ asked_calls (drop n left)) =
    subst (AreAccepted b.calls) (halves n left) ok in
    let rest : AreAccepted (after_calls b.calls (asked_calls before)) (asked_calls (drop (max told x.version) calls)) =
    subst (λ (ms : List AcceptedOf). AreAccepted (after_calls b.calls (asked_calls before)) (asked_calls ms))
    (left_over told x.version calls) (accepted_behind b.calls (asked_calls before) (asked_calls (drop n left)) split) in
    let own = λ (next : Bridge) (is : next.calls ≡ after_calls b.calls (asked_calls before)).
    item_is next x (behind ++ Nothing ∷ []) (led (max told x.version) calls xs)
    (items_are (after_item next x.input) (max told x.version) calls xs
    (subst (λ (h : CallHistory). AreAccepted h (asked_calls (drop (max told x.version) calls))) (sym is) rest)) in
    ap (λ (rs : List Request). (after_all b rs).steps)
    (append_assoc (map call_asked before) (Item x.input ∷ behind) (Nothing ∷ []))
    ∙ calls_are b before (Item x.input ∷ behind ++ Nothing ∷ [])
    (Event.item 0 x.input ∷ led (max told x.version) calls xs)
    (accepted_front b.calls (asked_calls before) (asked_calls (drop n left)) split) own

-- ---- and those of all calls

-- with the calls behind the last item
all_led : (told : ℕ) (calls : List AcceptedOf) (items : List Versioned) → InOrder told items
    → (rest : List CallOf)
    × (led told calls items ++ map Event.called rest ≡ script_from told (asked_calls (drop told calls)) items)
all_led told calls [] order = (asked_calls (drop told calls), refl)
all_led told calls (x ∷ xs) order =
    let left = drop told calls in
    let n : ℕ = x.version - told in
    let same : max told x.version ≡ x.version = omega (arith, order.0) in
    let more = all_led x.version calls xs order.1 in
    let first = map Event.called (asked_calls (between told x.version calls)) in
    let behind : drop n (asked_calls left) ≡ asked_calls (drop x.version calls) =
    drop-map (λ (m : AcceptedOf). m.call) n left
    ∙ ap asked_calls (left_over told x.version calls ∙ ap (λ (k : ℕ). drop k calls) same) in
    let front : take n (asked_calls left) ≡ asked_calls (between told x.version calls) =
    take-map (λ (m : AcceptedOf). m.call) n left in (
      more.0,
      append_assoc first (Event.item 0 x.input ∷ led (max told x.version) calls xs) (map Event.called more.0)
          ∙ (ap
          (λ (k : ℕ). first ++ Event.item 0 x.input ∷ (led k calls xs ++ map Event.called more.0)) same
          ∙ (ap (λ (es : List Event). first ++ Event.item 0 x.input ∷ es)
          (more.1 ∙ ap (λ (cs : List CallOf). script_from x.version cs xs) (sym behind))
          ∙ ap
          (λ (cs : List CallOf).
          map Event.called cs ++ Event.item 0 x.input ∷ script_from x.version (drop n (asked_calls left)) xs)
          (sym front))),
    )

-- ---- what is sent

-- for calls nothing is sent
calls_silent : (who : Asker) (start : Desk) (before : List Step) (h : CallHistory) (rest : List CallOf)
    → along (sent_at who 1 start) before (steps_after h (map Event.called rest)) ≡ []
calls_silent who start before h [] = refl
calls_silent who start before h (c ∷ cs) =
    calls_silent who start (before ++ Step.publish (desk_now (after_call h c)) ∷ []) (after_call h c) cs

-- so calls behind all others change nothing
last_silent : (who : Asker) (start : Desk) (before : List Step) (h : CallHistory) (events : List Event)
    (rest : List CallOf)
    → along (sent_at who 1 start) before (steps_after h (events ++ map Event.called rest))
    ≡ along (sent_at who 1 start) before (steps_after h events)
last_silent who start before h [] rest = calls_silent who start before h rest
last_silent who start before h (Event.called c ∷ events) rest =
    last_silent who start (before ++ Step.publish (desk_now (after_call h c)) ∷ []) (after_call h c) events rest
last_silent who start before h (Event.item to input ∷ events) rest =
    ap (λ (t : List (List Sent)). sent_at who 1 start before (Step.item to input) ++ t)
    (last_silent who start (before ++ Step.item to input ∷ []) h events rest)

-- by the requests, who speaks, and the steps
asked_steps : (decoding : Decoding) (who : Asker) (calls : List AcceptedOf) (items : List Versioned)
    → AreAccepted (no_calls (first_desk who)) (asked_calls calls)
    → (after_all (opening_bridge decoding) (lane_asked who calls items)).steps
    ≡ steps_after (no_calls (first_desk who)) (led 0 calls items)
asked_steps decoding who calls items ok = items_are (begun_bridge decoding who) 0 calls items ok

pub script_sends : (decoding : Decoding) (lane : ℕ) (who : Asker) (calls : List AcceptedOf) (items : List Versioned)
    → IsWritten who → AreToldCalls calls → AreToldItems items
    → AreAccepted (no_calls (first_desk who)) (asked_calls calls) → InOrder 0 items → UpTo (length calls) items
    → flat_map (λ es. es) (sent_in (answers_of decoding (lane_script lane who calls items)))
    ≡ sent_alone who (first_desk who) (asked_calls calls) items
script_sends decoding lane who calls items written said given ok order up =
    let start = first_desk who in
    let text = lane_script lane who calls items in
    let within = all_within (no_calls start) calls ok in
    let read = script_read lane who calls items written said within given in
    let speaker : speaker_of text ≡ who = ap named_by read in
    let steps : steps_of decoding text ≡ steps_after (no_calls start) (led 0 calls items) =
    ap (λ (rs : List Request). (after_all (opening_bridge decoding) rs).steps) read
    ∙ asked_steps decoding who calls items ok in
    let all = all_led 0 calls items order in
    let many : length (asked_calls calls) ≡ length calls = length-map calls (λ (m : AcceptedOf). m.call) in
    let most : UpTo (0 + length (asked_calls calls)) items = subst (λ (n : ℕ). UpTo n items) (omega (arith, many)) up in
    let merged = script_is 0 (asked_calls calls) items order most in
    ap (flat_map (λ (es : List Sent). es))
    (sends_told decoding text
    ∙ (ap (λ (w : Asker). sends w 1 (first_desk w) (steps_of decoding text)) speaker
    ∙ (ap (sends who 1 start) steps
    ∙ (sym (last_silent who start [] (no_calls start) (led 0 calls items) all.0)
    ∙ ap (λ (es : List Event). sends who 1 start (steps_after (no_calls start) es)) (all.1 ∙ merged)))))
