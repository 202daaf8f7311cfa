-- What a feed keeps of a lane beside its port.
use Rattle.std.specs.Prelude.{◌≡◌, Bool, true, false, ◌||◌, if◌then◌else◌, nat_le, List, Some, None, All, IfSome}
use Rattle.logbook.specs.Pages.{Book}
use Rattle.published_desk.specs.Published.{NoticeOf}
use Rattle.media_workers.specs.Ports.{PortOf}
use Rattle.media_front.specs.declared.lane_status.LaneStatus.{LaneStatus}
use Rattle.media_front.specs.Signals.{many_parcels}
use Rattle.media_front.specs.FedLanes.{FedLane, one_more}
use Rattle.media_front.specs.inner.Places.{beside}

-- a lane that was given nothing
abbrev pub fresh_status : LaneStatus
fresh_status = record { owed = None; unsignalled = 0; pressed = false; given = 0; dropped = 0 }

-- a parcel, which presses or does not, was accepted with the notice that was owed, or was dropped
abbrev pub counted : (accepted presses : Bool) → LaneStatus → LaneStatus
counted true presses t =
    record {
      owed = None;
      unsignalled = one_more t.unsignalled;
      pressed = t.pressed || presses;
      given = one_more t.given;
      dropped = t.dropped;
    }
counted false presses t =
    record {
      owed = t.owed;
      unsignalled = t.unsignalled;
      pressed = t.pressed;
      given = t.given;
      dropped = one_more t.dropped;
    }

-- the notice is owed
abbrev pub owing : NoticeOf → LaneStatus → LaneStatus
owing notice t =
    record {
      owed = Some notice;
      unsignalled = t.unsignalled;
      pressed = t.pressed;
      given = t.given;
      dropped = t.dropped;
    }

-- the signal was raised, if it was due
abbrev pub status_after_signal : LaneStatus → LaneStatus
status_after_signal t =
    if t.pressed || nat_le many_parcels t.unsignalled
    then record { owed = t.owed; unsignalled = 0; pressed = false; given = t.given; dropped = t.dropped } else t

-- a lane, by its port and by what is kept beside it
abbrev pub lane_by : {P S : Type 0} → PortOf P S → LaneStatus → FedLane P S
lane_by port t =
    record {
      port = port;
      owed = t.owed;
      unsignalled = t.unsignalled;
      pressed = t.pressed;
      given = t.given;
      dropped = t.dropped;
    }

-- the lanes, each by its port and by what is kept beside it
abbrev pub lanes_by : {P S : Type 0} → List (PortOf P S) → List LaneStatus → List (FedLane P S)
lanes_by ports statuses = beside lane_by ports statuses

-- Each notice that is owed is of this publisher.
abbrev pub AreOf : Book → List LaneStatus → Type 0
AreOf publisher ts = All (λ (t : LaneStatus). IfSome t.owed (λ (n : NoticeOf). n.publisher ≡ publisher)) ts
