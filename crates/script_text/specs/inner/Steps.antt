-- A run between two octets: what the functions inside it say to one another.
use Rattle.std.specs.List.{All, flat_map}
use Rattle.std.specs.Prelude.{◌≡◌, ◌==◌, ◌<◌, Bool, true, false, ℕ, length}
use Rattle.std.specs.Prelude.{List, [], ◌++◌, Option, None, Result, Ok, Err}
use Rattle.std.specs.Io.KnownBytes.{Appends}
use Rattle.desk_edit.specs.declared.refusal.Refusal.TheVariants.{OutOfMemory}
use Rattle.media_items.specs.Inputs.{Input}
use Rattle.ingress.specs.Ingresses.{Knows}
use Rattle.desk_calls.specs.declared.reply.Reply.{Reply}
use Rattle.desk_calls.specs.declared.reply.Reply.TheVariants.{Refused}
use Rattle.bridge_core.specs.Following.{HasCalled}
use Rattle.bridge_core.specs.Steps.{CoreOf, HasTaken}
use Rattle.desk_text.specs.Lines.{lines_by, whole, ended, parts_of}
use Rattle.script_text.specs.declared.fault.RunFault.{RunFault}
use Rattle.script_text.specs.declared.fault.RunFault.TheVariants as errors
use Rattle.script_text.specs.Requests.{Request}
use Rattle.script_text.specs.FirstLine.{request_at}
use Rattle.script_text.specs.Decodings.{Decoding, DecodesRequest, DecodesLines}
use Rattle.script_text.specs.SentLines.{sent_text}
use Rattle.script_text.specs.Bridge.{Bridge, first_desk, opening_bridge, answer_text, bridge_after}
use Rattle.script_text.specs.Bridge.{item_sent, after_item, items_sent, items_text, after_items}
use Rattle.script_text.specs.Output.{RunOutput, told, stopped, outcome_of, IsPrefixOf, IsCutOf}

-- the reply reports out of memory
abbrev pub wants_memory : Reply → Bool
wants_memory (Refused at OutOfMemory) = true
wants_memory reply = false

-- the core is this bridge
pub record Stands (core : CoreOf) (bridge : Bridge) : Type 0 where
  pub taken : HasTaken core (first_desk bridge.who) bridge.steps
  pub called : HasCalled core bridge.calls
  pub lanes : length core.lanes ≡ 1
  pub knows : Knows core.ingress bridge.sources
  pub speaks : core.ingress.asker ≡ bridge.who

-- the core has the lane that a script's items go to
abbrev pub HasLane : CoreOf → Type 0
HasLane core = 0 < length core.lanes

-- what a run holds: the core, the number of the line that is being read, and what has come of it
pub record Held : Type 0 where
  pub core : CoreOf
  pub line : ℕ
  pub pending : List ℕ

-- where a run is: the bridge, the number of the line that is being read, and what has come of it
pub record Place : Type 0 where
  pub bridge : Bridge
  pub line : ℕ
  pub pending : List ℕ

-- before any octet
abbrev pub opening : Decoding → Place
opening decoding = record { bridge = opening_bridge decoding; line = 1; pending = [] }

-- where a run is that holds this, if its core is this bridge
abbrev pub place_of : Held → Bridge → Place
place_of held bridge = record { bridge = bridge; line = held.line; pending = held.pending }

-- a run of which no octet was read
abbrev pub IsOpening : Held → Type 0
IsOpening held =
    ((decoding : Decoding) → Stands held.core (opening_bridge decoding)) × (held.line ≡ 1) × (held.pending ≡ [])

-- no line has ended of what has come
abbrev pub IsMidLine : Held → Type 0
IsMidLine held = All (λ b. (b == 10) ≡ false) held.pending

-- what is still to come from a place, with these octets
abbrev pub to_come : (List ℕ → List (List ℕ)) → Place → List ℕ → RunOutput
to_come last place text = outcome_of place.bridge place.line (lines_by last (parts_of (place.pending ++ text)))

-- the octets led from one place to the other, and this was sent
abbrev pub Goes : Place → List ℕ → Place → List ℕ → Type 0
Goes old octets new sent =
    (last : List ℕ → List (List ℕ)) (tail : List ℕ)
    → to_come last old (octets ++ tail) ≡ told sent (to_come last new tail)

-- why a step over octets failed, and what was sent, whatever comes behind them
abbrev pub StepFails : Place → List ℕ → List ℕ → RunFault → Type 0
StepFails old octets sent (errors.Script line word fault) =
    (tail : List ℕ) → to_come whole old (octets ++ tail) ≡ told sent (stopped line word fault)
StepFails old octets sent errors.Write = (tail : List ℕ) → IsCutOf sent (to_come whole old (octets ++ tail)).text
StepFails old octets sent errors.Read = ⊥
StepFails old octets sent errors.OutOfMemory =
    (front : List ℕ) × IsPrefixOf front octets × (to_come ended old front ≡ record { text = sent; fault = None })

-- all datagrams and waits are decoded that come with these octets
abbrev pub DecodesComing : Decoding → Held → List ℕ → Type 0
DecodesComing decoding held text = DecodesLines decoding (lines_by whole (parts_of (held.pending ++ text)))

-- how a step over octets ended before others that come behind them, and what is held then
abbrev pub StepEnds : Place → List ℕ → List ℕ → Held → List ℕ → Result (Unit {0}) RunFault → Type 0
StepEnds old octets tail new sent (Ok u) =
    (bridge : Bridge) × Stands new.core bridge × Goes old octets (place_of new bridge) sent
    × DecodesComing bridge.decoding new tail
StepEnds old octets tail new sent (Err e) = StepFails old octets sent e

-- a step over octets that sends nothing, whatever comes behind them
abbrev pub Keeps : Held → List ℕ → Held → Result (Unit {0}) RunFault → Type 0
Keeps old octets new result =
    (bridge : Bridge) (tail : List ℕ) → DecodesComing bridge.decoding old (octets ++ tail) → Stands old.core bridge
    → StepEnds (place_of old bridge) octets tail new [] result

-- a step over octets, and what the writer held before and holds now, whatever comes behind them
abbrev pub Steps : Held → List ℕ → Held → Option (List ℕ) → Option (List ℕ) → Result (Unit {0}) RunFault → Type 0
Steps old octets new before now result =
    (bridge : Bridge) (tail : List ℕ) → DecodesComing bridge.decoding old (octets ++ tail) → Stands old.core bridge
    → (sent : List ℕ) × Appends before now sent × StepEnds (place_of old bridge) octets tail new sent result

-- a request was answered by this text
abbrev pub AnswersRequest : CoreOf → Request → CoreOf → List ℕ → Type 0
AnswersRequest old request new text =
    (bridge : Bridge) → DecodesRequest bridge.decoding (Ok request) → Stands old bridge
    → Stands new (bridge_after bridge request) × (text ≡ answer_text bridge request)

-- the lane was handed an item, and this was written behind what stood before
abbrev pub HandsItem : CoreOf → Input → CoreOf → List ℕ → List ℕ → Type 0
HandsItem old item new before now =
    (bridge : Bridge) → Stands old bridge
    → Stands new (after_item bridge item) × (now ≡ before ++ flat_map sent_text (item_sent bridge item))

-- the same for items, one after another
abbrev pub HandsItems : CoreOf → List Input → CoreOf → List ℕ → List ℕ → Type 0
HandsItems old items new before now =
    (bridge : Bridge) → Stands old bridge
    → Stands new (after_items bridge items) × (now ≡ before ++ items_text (items_sent bridge items))

-- how the answer to one line ended, of which no other is known
abbrev pub LineEnds : Bridge → ℕ → List ℕ → CoreOf → List ℕ → Result (Unit {0}) RunFault → Type 0
LineEnds old number line new sent (Ok u) =
    (request : Request) × (request_at number line ≡ Ok request) × Stands new (bridge_after old request)
    × (sent ≡ answer_text old request)
LineEnds old number line new sent (Err (errors.Script n word fault)) =
    (n ≡ number) × (request_at number line ≡ Err (word, fault)) × (sent ≡ [])
LineEnds old number line new sent (Err errors.Write) =
    (request : Request) × (request_at number line ≡ Ok request) × IsCutOf sent (answer_text old request)
LineEnds old number line new sent (Err errors.Read) = ⊥
LineEnds old number line new sent (Err errors.OutOfMemory) = sent ≡ []

-- the answer to one line, and what the writer held before and holds now
abbrev pub AnswersLine : CoreOf → ℕ → List ℕ → CoreOf → Option (List ℕ) → Option (List ℕ) → Result (Unit {0}) RunFault
    → Type 0
AnswersLine old number line new before now result =
    (bridge : Bridge) → DecodesRequest bridge.decoding (request_at number line) → Stands old bridge
    → (sent : List ℕ) × Appends before now sent × LineEnds bridge number line new sent result

-- all was sent, or a front and not all, or nothing on out of memory
abbrev pub SendEnds : List ℕ → List ℕ → Result (Unit {0}) RunFault → Type 0
SendEnds octets sent (Ok u) = sent ≡ octets
SendEnds octets sent (Err errors.Write) = IsCutOf sent octets
SendEnds octets sent (Err errors.OutOfMemory) = sent ≡ []
SendEnds octets sent (Err other) = ⊥

-- an attempt to send octets, and what the writer held before and holds now
abbrev pub Sends : List ℕ → Option (List ℕ) → Option (List ℕ) → Result (Unit {0}) RunFault → Type 0
Sends octets before now result = (sent : List ℕ) × Appends before now sent × SendEnds octets sent result

-- how the end of the input ended the last line
abbrev pub FinishEnds : Place → List ℕ → Result (Unit {0}) RunFault → Type 0
FinishEnds old sent (Ok u) = to_come whole old [] ≡ record { text = sent; fault = None }
FinishEnds old sent (Err (errors.Script line word fault)) = to_come whole old [] ≡ told sent (stopped line word fault)
FinishEnds old sent (Err errors.Write) = IsCutOf sent (to_come whole old []).text
FinishEnds old sent (Err errors.Read) = ⊥
FinishEnds old sent (Err errors.OutOfMemory) = to_come ended old [] ≡ record { text = sent; fault = None }

-- the end of the input, and what the writer held before and holds now
abbrev pub Finishes : Held → Option (List ℕ) → Option (List ℕ) → Result (Unit {0}) RunFault → Type 0
Finishes old before now result =
    (bridge : Bridge) → DecodesComing bridge.decoding old [] → Stands old.core bridge
    → (sent : List ℕ) × Appends before now sent × FinishEnds (place_of old bridge) sent result
