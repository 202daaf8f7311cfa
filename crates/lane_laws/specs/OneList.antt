-- Lanes that sent what one list of calls and items sends (own).
use Rattle.std.specs.Prelude.{◌≡◌, ℕ, List, map, slice_get, Some}
use Rattle.desk_rows.specs.Desk.{Desk}
use Rattle.desk_edit.specs.Asked.{CallOf as Call}
use Rattle.desk_edit.specs.Calls.{no_calls}
use Rattle.sender_feedback.specs.Upstream.{Asker}
use Rattle.bridge_core.specs.Sent.{Sent, sent_of}
use Rattle.bridge_core.specs.Steps.{Step, sends}
use Rattle.bridge_core.specs.Events.{Event, steps_of, calls_among}
use Rattle.bridge_core.specs.WholeRuns.{Holds}
use Rattle.media_workers.specs.declared.lane_end.LaneEnd.{LaneEnd}
use Rattle.media_workers.specs.Bridges.{Taking}
use Rattle.lane_laws.specs.Shares.{of_lane}
use Rattle.lane_laws.specs.NamedVersions.{AreGiven}

-- what each of these lanes sent: what its sink took
abbrev pub sent_by : {N S : Type 0} → Taking S → List (LaneEnd N S) → List (List Sent)
sent_by {N} {S} taken ends = map (λ (end : LaneEnd N S). map sent_of (taken end.sink)) ends

-- Each lane, by its place, sent just its share of what is sent for the items of these steps.
abbrev pub AreShares : List Step → List (List Sent) → List (List Sent) → Type 0
AreShares steps all sent =
    (lane : ℕ) (own : List Sent) → slice_get sent lane ≡ Some own → own ≡ of_lane lane steps all

-- The lanes of this bridge, this many, sent what this list of calls and items sends from this desk on: its calls are
-- these, what each lane sent is its share, and what is promised of whole runs holds of all that is sent.
pub record IsOneList (who : Asker) (many : ℕ) (start : Desk) (calls : List Call) (sent : List (List Sent))
    (events : List Event) : Type 0 where
  pub calls_are : calls_among events ≡ calls
  pub shares : let steps = steps_of (no_calls start) events in AreShares steps (sends who many start steps) sent
  pub holds : let steps = steps_of (no_calls start) events in Holds who many start steps (sends who many start steps)

-- Each packet that a lane sent goes where the desk of its version has it go.
abbrev pub SendByVersions : Desk → List Call → List (List Sent) → Type 0
SendByVersions start calls sent =
    (lane : ℕ) (own : List Sent) → slice_get sent lane ≡ Some own → AreGiven start calls own
