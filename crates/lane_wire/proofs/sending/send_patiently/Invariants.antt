use Rattle.std.proofs.Common.{◌≡◌, ◌++◌}
use Rattle.udp_wire.specs.Attempts.{datagrams_of}
use Rattle.lane_wire.specs.Tries.{unready}
use Rattle.lane_wire.proofs.sending.send_patiently.Given as goal

-- so far the wire was not ready, and a pause was made each time
abbrev pub invariant-loop-pauses : goal.invariant-loop-pauses
invariant-loop-pauses g l =
    g.W.LaneWire.steps l.wire ≡ g.W.LaneWire.steps l.fn.wire ++ unready (datagrams_of l.egress) l.pauses
