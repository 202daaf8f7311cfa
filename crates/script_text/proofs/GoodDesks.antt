-- The desks of a script are good.
use Rattle.std.proofs.Common.{◌≡◌, Bool, true, false, ℕ, List, [], ◌∷◌, ◌++◌, Option, Some, None, refl}
use Rattle.desk_rows.specs.Desk.{Desk as Rows, good}
use Rattle.desk_edit.specs.Asked.{CallOf}
use Rattle.desk_edit.specs.declared.refusal.Refusal.{Refusal}
use Rattle.desk_edit.specs.Calls.{CallHistory, no_calls, desk_now, refusal_of, after_call as history_after}
use Rattle.desk_revert.specs.Sound.{IsSound}
use Rattle.bridge_core.specs.Steps.{Step}
use Rattle.bridge_core.specs.Headline.{IsGood, AreGood}
use Rattle.media_items.specs.Inputs.{Input}
use Rattle.media_items.specs.Inputs.Input.{report, renew}
use Rattle.sender_feedback.specs.Upstream.{Asker}
use Rattle.desk_text.specs.Lines.{lines_of}
use Rattle.script_text.specs.Requests.{Request, Nothing, Begin, Desk, Item, Rx, Wait, Report, Show}
use Rattle.script_text.specs.Decodings.{Decoding, script_asker}
use Rattle.script_text.specs.Bridge.{Bridge, first_desk, begun_bridge, opening_bridge, answer_begin, answer_call}
use Rattle.script_text.specs.Bridge.{after_item, after_items, knowing, taken_at, waited_at, origin_at, reported_at}
use Rattle.script_text.specs.Bridge.{bridge_after}
use Rattle.script_text.specs.Scripts.{requests_of, after_all, steps_of}

-- what accepted calls lead to is sound
pub record Keeps : Type 0 where
  pub begins : (start : Rows) → good start ≡ true → IsSound (no_calls start)
  pub goes_on : (h : CallHistory) (call : CallOf) → IsSound h → refusal_of h call ≡ None
      → IsSound (history_after h call)
  pub good : (h : CallHistory) → IsSound h → good (desk_now h) ≡ true

step_good : (steps : List Step) (step : Step) → AreGood steps → IsGood step → AreGood (steps ++ step ∷ [])
step_good [] step h g = (g, h)
step_good (s ∷ steps) step (gs, h) g = (gs, step_good steps step h g)

pub first_good : (who : Asker) → good (first_desk who) ≡ true
unfolding good
first_good who = refl

-- its history is sound, and its desks so far are good
record Fine (b : Bridge) : Type 0 where
  calls : IsSound b.calls
  steps : AreGood b.steps

item_good : (b : Bridge) (item : Input) → Fine b → Fine (after_item b item)
item_good b item fine = record { calls = fine.calls; steps = step_good b.steps (Step.item 0 item) fine.steps tt }

items_good : (b : Bridge) (items : List Input) → Fine b → Fine (after_items b items)
items_good b [] fine = fine
items_good b (item ∷ items) fine = items_good (after_item b item) items (item_good b item fine)

begun_fine : Keeps → (decoding : Decoding) (who : Asker) → Fine (begun_bridge decoding who)
begun_fine keeps decoding who = record { calls = keeps.begins (first_desk who) (first_good who); steps = tt }

begun_good : Keeps → (decoding : Decoding) (who : Asker) (renews : Bool)
    → Fine (answer_begin (begun_bridge decoding who) renews).1
begun_good keeps decoding who true = item_good (begun_bridge decoding who) renew (begun_fine keeps decoding who)
begun_good keeps decoding who false = begun_fine keeps decoding who

after_good : Keeps → (b : Bridge) (request : Request) → Fine b → Fine (bridge_after b request)
after_good keeps b Nothing fine = fine
after_good keeps b (Begin who renews) fine = begun_good keeps b.decoding who renews
after_good keeps b Show fine = fine
after_good keeps b (Desk op call) fine = by (refusal_of b.calls call) refl
  where
    by : (reason : Option Refusal) → refusal_of b.calls call ≡ reason
        → Fine (answer_call b (history_after b.calls call) reason).1
    by None none =
        let next = history_after b.calls call in
        let sound = keeps.goes_on b.calls call fine.calls none in
        record {
          calls = sound;
          steps = step_good b.steps (Step.publish (desk_now next)) fine.steps (keeps.good next sound);
        }
    by (Some why) is = fine
after_good keeps b (Item item) fine = item_good b item fine
after_good keeps b (Rx moment from octets) fine =
    let took = taken_at b moment from octets in
    items_good (knowing took.1 b) took.0.items (record { calls = fine.calls; steps = fine.steps })
after_good keeps b (Wait moment from ssrc) fine =
    let went = waited_at b moment (origin_at from ssrc) in
    items_good (knowing went.1 b) went.0.items (record { calls = fine.calls; steps = fine.steps })
after_good keeps b (Report moment) fine =
    item_good (knowing (reported_at b moment).1 b) (report moment) (record { calls = fine.calls; steps = fine.steps })

all_good : Keeps → (b : Bridge) (requests : List Request) → Fine b → Fine (after_all b requests)
all_good keeps b [] fine = fine
all_good keeps b (request ∷ requests) fine =
    all_good keeps (bridge_after b request) requests (after_good keeps b request fine)

pub steps_good : Keeps → (decoding : Decoding) (input : List ℕ) → AreGood (steps_of decoding input)
steps_good keeps decoding input =
    (all_good keeps (opening_bridge decoding) (requests_of (lines_of input)) (begun_fine keeps decoding
    script_asker)).steps
