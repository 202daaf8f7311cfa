-- Logs that exist in proofs alone: what a sink took, and what was done on a wire (own).
use Rattle.std.specs.Prelude.{List, [], ◌∷◌, ◌++◌}
use Rattle.std.specs.declared.alloc.Global.{Global}
use Rattle.bridge_core.specs.declared.egress.Egress.{Egress}
use Rattle.udp_wire.specs.Attempts.{datagrams_of}
use Rattle.lane_wire.specs.declared.taken.Taken.{Taken, Nothing, More'}
use Rattle.lane_wire.specs.declared.wire_log.WireLog.{WireLog, Nothing as None_yet, Tried', Paused'}
use Rattle.lane_wire.specs.Tries.{WireStep, paused, all_tried}

-- all that was taken, oldest first
abbrev pub taken_list : Taken → List (Egress Global)
taken_list Nothing = []
taken_list (More' marker before last) = taken_list before ++ last.value ∷ []

-- all that was done, oldest first
abbrev pub step_list : WireLog → List WireStep
step_list None_yet = []
step_list (Tried' marker before egress answer) = step_list before ++ all_tried (datagrams_of egress.value) answer.value
step_list (Paused' marker before) = step_list before ++ paused ∷ []
