-- What the lanes of a bridge send from its beginning to its end (own).
use Rattle.std.specs.Prelude.{◌≡◌, ℕ, List, length, map, Some, slice_get}
use Rattle.logbook.specs.Pages.{Book}
use Rattle.desk_rows.specs.Desk.{Desk}
use Rattle.desk_edit.specs.Asked.{CallOf as Call}
use Rattle.sender_feedback.specs.Upstream.{Asker}
use Rattle.ingress.specs.declared.settings.Settings.{Settings}
use Rattle.bridge_core.specs.Sent.{Sent, sent_of}
use Rattle.bridge_core.specs.Events.{Event}
use Rattle.media_workers.specs.LaneRuns.{LaneNow}
use Rattle.media_workers.specs.Bridges.{IsNew}
use Rattle.lane_laws.specs.Learnt.{AllBegin, AllRead}
use Rattle.lane_laws.specs.OneList.{IsOneList, SendByVersions}
use Rattle.media_front.specs.FedLanes.{lanes_in}
use Rattle.media_front.specs.Fronts.{FrontOf}
use Rattle.lane_wire.specs.Logs.{taken_list}
use Rattle.lane_wire.specs.declared.wire_sink.LaneSent.{LaneSent}

-- by which SSRC and name a bridge of these settings signs
abbrev pub signer : {A : Type 0} → Settings A → Asker
signer settings = record { ssrc = settings.bridge_ssrc; cname = settings.cname }

-- The lanes as they were handed in: all those of a bridge of this name, this many, none of which had handled anything.
-- Their readers were of this publisher, and began with this desk.
pub record HaveBegun (who : Asker) (many : ℕ) (start : Desk) (publisher : Book) (lanes : List LaneNow) : Type 0 where
  pub count : length lanes ≡ many
  pub new : (place : ℕ) (lane : LaneNow) → slice_get lanes place ≡ Some lane → IsNew who many place lane
  pub begin : AllBegin start lanes
  pub read : AllRead publisher lanes

-- The lanes of a front began so, and its ingress signs by the same name.
pub record IsSetUp {P S : Type 0} (who : Asker) (many : ℕ) (start : Desk) (publisher : Book) (front : FrontOf P S)
    : Type 0 where
  pub begun : HaveBegun who many start publisher (lanes_in front.feed)
  pub asker : front.ingress.asker ≡ who

-- what each lane sent: what its sink took
abbrev pub sent_into : List LaneSent → List (List Sent)
sent_into lanes = map (λ lane. map sent_of (taken_list lane.taken)) lanes

-- The lanes of a bridge of this name sent what one list of these calls and of items sends from this desk on, as the
-- headline has it. Each packet goes where the desk of its version has it go.
pub record IsOneRun (who : Asker) (start : Desk) (calls : List Call) (sent : List (List Sent)) : Type 0 where
  pub events : List Event
  pub one : IsOneList who (length sent) start calls sent events
  pub by_versions : SendByVersions start calls sent
