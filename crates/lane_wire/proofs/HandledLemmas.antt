-- What a sink was told, and where it hands that on, may go to another thread.
use denote.Param.Send.{IsSend, sendable}
use Rattle.std.proofs.Crossing.{crosses}
use Rattle.lane_wire.specs.contracts.handled.HandledLog as HandledLog
use Rattle.lane_wire.specs.contracts.lane_trace.LaneHandled as LaneHandled
use Rattle.lane_wire.proofs.lane_trace.LaneTrace.TheSendSync as trace

log : IsSend (HandledLog.the_field).row
log = search (sendable, crosses) depth 20

pub handled_send : IsSend (LaneHandled.the_field).row
handled_send = let l = log in let t = trace.the_send in search (sendable, crosses) depth 20 fits 20000
