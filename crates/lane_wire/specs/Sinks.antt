-- A lane's sink that sends over a wire, and what its wire was asked (own).
use Rattle.std.specs.Prelude.{ℕ, Bool, false, List, []}
use Rattle.std.specs.List.{flat_map}
use Rattle.std.specs.declared.alloc.Global.{Global}
use Rattle.bridge_core.specs.declared.egress.Egress.{Egress}
use Rattle.udp_wire.specs.Attempts.{datagrams_of}
use Rattle.lane_wire.specs.declared.counts.SendCounts.{SendCounts}
use Rattle.lane_wire.specs.declared.wire_sink.LaneSent.{LaneSent}
use Rattle.lane_wire.specs.Counted.{no_counts}
use Rattle.lane_wire.specs.Handlings.{HandledOf}
use Rattle.lane_wire.specs.Logs.{taken_list, step_list}
use Rattle.lane_wire.specs.Sendings.{so_far, WereSent}
use Rattle.lane_wire.specs.Tries.{WireStep}

-- a sink: its wire, what it took, how much of that was sent, whether the last datagram was given up, and what it was
-- told that its lane handled
pub record SinkOf (W : Type 0) : Type 0 where
  pub wire : W
  pub taken : List (Egress Global)
  pub counts : SendCounts
  pub is_stuck : Bool
  pub handled : HandledOf

-- From a new wire on, these steps sent the datagrams of these egresses, each once and in this order. Nothing else was
-- done on the wire. They were counted, and the last one was given up or not.
abbrev pub HaveSent : List (Egress Global) → List WireStep → SendCounts → (is_stuck : Bool) → Type 0
HaveSent taken steps counts is_stuck =
    WereSent (flat_map datagrams_of taken) (so_far [] no_counts false) (so_far steps counts is_stuck)

-- A wire was asked to send the datagrams of these egresses, each once and in this order, and was asked nothing else.
-- They were counted.
abbrev pub WasAsked : List (Egress Global) → List WireStep → SendCounts → Type 0
WasAsked taken steps counts = (is_stuck : Bool) × HaveSent taken steps counts is_stuck

-- the same of what a lane left: its wire was asked for all that its sink took, and for nothing else
abbrev pub AskedForAll : LaneSent → Type 0
AskedForAll lane = WasAsked (taken_list lane.taken) (step_list lane.asked) lane.counts
