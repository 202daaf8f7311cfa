-- What a bridge did from its beginning to its end, by what it leaves behind (own).
use Rattle.std.specs.Prelude.{ℕ, List, [], ◌∷◌}
use Rattle.desk_rows.specs.Desk.{Desk}
use Rattle.sender_feedback.specs.Upstream.{Asker}
use Rattle.media_workers.specs.declared.signal.SleepPace.{SleepPace}
use Rattle.lane_wire.specs.Logs.{taken_list, step_list}
use Rattle.lane_wire.specs.Sinks.{SinkOf}
use Rattle.lane_wire.specs.declared.wire_sink.LaneSent.{LaneSent}
use Rattle.event_loop.specs.Logs.{read_list, tried_list}
use Rattle.whole_laws.specs.Whole.{LaneLeft, Left, IsWhole}
use Rattle.bridge_server.specs.declared.sinks.LaneSocket.{LaneSocket}
use Rattle.bridge_server.specs.declared.stopped.FrontLeft.{FrontLeft}
use Rattle.bridge_server.specs.declared.stopped.Stopped.{Stopped}

-- what each lane left behind, by how many items were dropped for each and what each sent
abbrev pub lanes_left : List ℕ → List LaneSent → List LaneLeft
lanes_left [] sent = []
lanes_left (dropped ∷ more) [] = []
lanes_left (dropped ∷ more) (lane ∷ lanes) =
    record {
      dropped = dropped;
      taken = taken_list lane.taken;
      asked = step_list lane.asked;
      counts = lane.counts;
    } ∷ lanes_left more lanes

-- what a bridge left behind, by what its front and its lanes did
abbrev pub left_by : FrontLeft → List ℕ → List LaneSent → Left
left_by front dropped sent =
    record {
      read = read_list front.read;
      told = front.told;
      tried = tried_list front.tried;
      lanes = lanes_left dropped sent;
    }

-- A bridge of this name, on this runtime, ran from this desk on as it left behind.
abbrev pub IsWholeRun : (R : Type 0) → (who : Asker) → (start : Desk) → Stopped → Type 0
IsWholeRun R who start s =
    IsWhole (SleepPace R (Unit {0})) (SinkOf LaneSocket) who start s.log.items
    (left_by s.front s.dropped.items s.sent.items)
