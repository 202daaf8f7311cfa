-- Calls of the desk and items of the lanes, in any order (own).
use Rattle.std.specs.Prelude.{◌≡◌, ℕ, ◌+◌, ◌-◌, ◌^◌, nat_eq, if◌then◌else◌}
use Rattle.std.specs.Prelude.{List, [], ◌∷◌, ◌++◌, length, Some, slice_get}
use Rattle.desk_rows.specs.Edit.{EditOf}
use Rattle.desk_rows.specs.Desk.{Desk}
use Rattle.desk_edit.specs.Calls.{CallHistory}
use Rattle.desk_calls.specs.Desk.{DeskOf}
use Rattle.sender_feedback.specs.Upstream.{Asker}
use Rattle.media_items.specs.Inputs.{Input}
use Rattle.ingress.specs.inner.Holding.{IngressOf}
use Rattle.bridge_core.specs.Sent.{Sent}
use Rattle.bridge_core.specs.Lanes.{Visit, sends_at}
use Rattle.bridge_core.specs.LaneState.{LaneOf, visit_of, HasHandled}

-- an accepted call publishes a desk, or a lane is given an item
pub data Step : Type 0 where
  publish : Desk → Step
  item : ℕ → Input → Step

-- how many desks were published: the version
abbrev pub version_of : List Step → ℕ
version_of [] = 0
version_of (Step.publish next ∷ steps) = 1 + version_of steps
version_of (Step.item to input ∷ steps) = version_of steps

-- the last desk that was published, or else the first one
abbrev pub desk_of : Desk → List Step → Desk
desk_of desk [] = desk
desk_of desk (Step.publish next ∷ steps) = desk_of next steps
desk_of desk (Step.item to input ∷ steps) = desk_of desk steps

-- how many items the lane was given
abbrev pub items_given : ℕ → List Step → ℕ
items_given lane [] = 0
items_given lane (Step.publish next ∷ steps) = items_given lane steps
items_given lane (Step.item to input ∷ steps) =
    if nat_eq to lane then 1 + items_given lane steps else items_given lane steps

-- what each step gives after those before it, joined
abbrev pub along : {X : Type 0} → (List Step → Step → List X) → List Step → List Step → List X
along at before [] = []
along at before (step ∷ steps) = at before step ++ along at (before ++ step ∷ []) steps

-- an item that comes to a lane after these steps: with its version, its number in the lane, and the desk of that
-- version
abbrev pub visit_after : Desk → List Step → ℕ → Input → Visit
visit_after start before lane input =
    visit_of (version_of before) (items_given lane before + 1) (desk_of start before) input

-- the visit that a step is to a lane, if it is one
abbrev pub visit_at : ℕ → Desk → List Step → Step → List Visit
visit_at lane start before (Step.publish next) = []
visit_at lane start before (Step.item to input) =
    if nat_eq to lane then visit_after start before lane input ∷ [] else []

-- the items of a lane
abbrev pub visits : ℕ → Desk → List Step → List Visit
visits lane start steps = along (visit_at lane start) [] steps

-- what is sent at a step: for an item one list
abbrev pub sent_at : Asker → ℕ → Desk → List Step → Step → List (List Sent)
sent_at who lanes start before (Step.publish next) = []
sent_at who lanes start before (Step.item lane input) =
    sends_at who lane lanes (visits lane start before) (visit_after start before lane input) ∷ []

-- what a bridge of this name sends for each item, on so many lanes
abbrev pub sends : Asker → ℕ → Desk → List Step → List (List Sent)
sends who lanes start steps = along (sent_at who lanes start) [] steps

-- the core: how many calls were accepted, their history, the desk with the edits done and those undone, the lanes, and
-- the receive side
pub record CoreOf : Type 0 where
  pub version : ℕ
  pub history : CallHistory
  pub desk : Desk
  pub done : List (List EditOf)
  pub undone : List (List EditOf)
  pub lanes : List LaneOf
  pub ingress : IngressOf

-- the desk of a core, with its calls; how much memory it has is not told
abbrev pub core_desk : CoreOf → DeskOf
core_desk core = record {
  version = core.version;
  history = core.history;
  desk = core.desk;
  done = core.done;
  undone = core.undone;
  spare = 0;
}

-- The core has taken these steps, from this desk on.
pub record HasTaken (core : CoreOf) (start : Desk) (steps : List Step) : Type 0 where
  pub version : core.version ≡ version_of steps
  pub desk : core.desk ≡ desk_of start steps
  pub lanes : (lane : ℕ) (state : LaneOf) → slice_get core.lanes lane ≡ Some state
      → HasHandled state (visits lane start steps)

-- Whatever steps the old core has taken, this is what is sent at one more, and the new core has taken it too.
abbrev pub Takes : CoreOf → CoreOf → Step → List (List Sent) → Type 0
Takes old new step sent =
    (start : Desk) (before : List Step) → HasTaken old start before →
    (sent ≡ sent_at old.ingress.asker (length old.lanes) start before step) × HasTaken new start (before ++ step ∷ [])

-- the lane has handled as many items as have numbers
abbrev pub IsSpent : CoreOf → ℕ → Type 0
IsSpent core lane = (state : LaneOf) → slice_get core.lanes lane ≡ Some state → state.handled ≡ 2 ^ 64 - 1
