-- What happens to a bridge: accepted calls of the desk and items of the lanes, in any order (own).
use Rattle.std.specs.Prelude.{◌≡◌, ℕ, true, List, [], ◌∷◌, length}
use Rattle.desk_rows.specs.Desk.{good}
use Rattle.desk_edit.specs.Asked.{CallOf as Call}
use Rattle.desk_edit.specs.Calls.{CallHistory, desk_now, after_call}
use Rattle.desk_calls.specs.declared.reply.Reply.TheVariants.{Accepted}
use Rattle.media_items.specs.Inputs.{Input}
use Rattle.bridge_core.specs.Sent.{Sent}
use Rattle.bridge_core.specs.Steps.{Step, CoreOf, Takes}
use Rattle.bridge_core.specs.Following.{HasCalled, IsAnswered}

-- a call that is accepted, or an item that a lane is given
pub data Event : Type 0 where
  called : Call → Event
  item : ℕ → Input → Event

-- the steps that events are, after a history of calls: an accepted call publishes the desk to which the history with it
-- leads
abbrev pub steps_of : CallHistory → List Event → List Step
steps_of h [] = []
steps_of h (Event.called call ∷ events) =
    Step.publish (desk_now (after_call h call)) ∷ steps_of (after_call h call) events
steps_of h (Event.item lane input ∷ events) = Step.item lane input ∷ steps_of h events

-- the calls among events, in order
abbrev pub calls_among : List Event → List Call
calls_among [] = []
calls_among (Event.called call ∷ events) = call ∷ calls_among events
calls_among (Event.item lane input ∷ events) = calls_among events

-- This is what a core answers to a call that it accepts: whatever history of calls has led to it, the call is the
-- history's next, and the desk is good.
pub record Accepts (old new : CoreOf) (call : Call) : Type 0 where
  pub number : ℕ
  pub answered : (h : CallHistory) → HasCalled old h → IsAnswered h new call (Accepted number)
  pub takes : Takes old new (Step.publish new.desk) []
  pub good : good new.desk ≡ true
  pub lanes : new.lanes ≡ old.lanes
  pub who : new.ingress.asker ≡ old.ingress.asker

-- This is what a core answers to an item: whatever steps have led to it, what is sent, and its desk and its edits stay.
pub record Sends (old new : CoreOf) (lane : ℕ) (input : Input) (sent : List Sent) : Type 0 where
  pub takes : Takes old new (Step.item lane input) (sent ∷ [])
  pub version : new.version ≡ old.version
  pub history : new.history ≡ old.history
  pub desk : new.desk ≡ old.desk
  pub done : new.done ≡ old.done
  pub undone : new.undone ≡ old.undone
  pub lanes : length new.lanes ≡ length old.lanes
  pub who : new.ingress.asker ≡ old.ingress.asker

-- At most the receive side changed: datagrams were taken in, or receiver reports were asked for.
pub record Listens (old new : CoreOf) : Type 0 where
  pub version : new.version ≡ old.version
  pub history : new.history ≡ old.history
  pub desk : new.desk ≡ old.desk
  pub done : new.done ≡ old.done
  pub undone : new.undone ≡ old.undone
  pub lanes : new.lanes ≡ old.lanes
  pub who : new.ingress.asker ≡ old.ingress.asker

-- From the first core to the last, each takes one of the events; this is what is sent for the items, in order. Before
-- each event, and after the last one, the receive side may take in datagrams and report.
abbrev pub Plays : CoreOf → List Event → List (List Sent) → CoreOf → Type 0
Plays first [] sent last = (sent ≡ []) × Listens first last
Plays first (Event.called call ∷ events) sent last =
    (ready : CoreOf) × (next : CoreOf) × Listens first ready × Accepts ready next call × Plays next events sent last
Plays first (Event.item lane input ∷ events) sent last =
    (ready : CoreOf) × (next : CoreOf) × (now : List Sent) × (later : List (List Sent)) × (sent ≡ now ∷ later)
    × Listens first ready × Sends ready next lane input now × Plays next events later last
