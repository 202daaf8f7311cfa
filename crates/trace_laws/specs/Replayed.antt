-- A lane that its part of a trace replays (own).
use Rattle.std.specs.Prelude.{◌≡◌, ℕ, List, map, filter}
use Rattle.sender_feedback.specs.Upstream.{Asker}
use Rattle.bridge_core.specs.Sent.{sent_of}
use Rattle.bridge_core.specs.Lanes.{is_lanes}
use Rattle.operator_desk.specs.Entry.{EntryOf}
use Rattle.operator_desk.specs.PastCalls.{made_of}
use Rattle.media_workers.specs.declared.lane_end.LaneEnd.{LaneEnd}
use Rattle.media_workers.specs.LaneRuns.{Versioned, Hears}
use Rattle.media_workers.specs.Bridges.{Taking, Hearing}
use Rattle.script_text.specs.Decodings.{Decoding}
use Rattle.trace_laws.specs.Traces.{AreToldItems, lane_script, script_sent}

-- The sink of the lane at this place was told of these items. If their numbers are in range and their lines aren't too
-- long, the lane's part of a trace, as a script, sends all that the lane sent: the lane sent what of that is about its
-- streams. It doesn't matter how a script's datagrams are decoded, since the lane's part has none.
pub record IsReplayedByText {N S : Type 0} (taken : Taking S) (hearing : Hearing S) (who : Asker)
    (many place : ℕ) (log : List EntryOf) (sink : S) (end : LaneEnd N S) (items : List Versioned) : Type 0 where
  pub heard : Hears hearing sink end.sink items
  pub sent : AreToldItems items → (decoding : Decoding)
      → map sent_of (taken end.sink)
      ≡ filter (is_lanes place many) (script_sent decoding (lane_script place who (made_of log) items))
