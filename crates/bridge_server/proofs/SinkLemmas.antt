-- A lane's sink may go to another thread.
use denote.RattleType.{RattleType}
use denote.Builtin.{bool}
use denote.Struct.Struct.{Struct}
use denote.Struct.Declared.{fields, shape}
use denote.Param.Send.{IsSend, AllSend, struct_send, recorded_send, sendable}
use Rattle.std.proofs.Crossing.{crosses, Arc-send}
use Rattle.lane_wire.specs.declared.sending.LaneWire as LaneWire
use Rattle.lane_wire.specs.contracts.counts.SendCounts as SendCounts
use Rattle.lane_wire.specs.contracts.shared_counts.SharedCounts as SharedCounts
use Rattle.lane_wire.proofs.shared_counts.SharedCounts.TheSendSync as shown
use Rattle.lane_wire.proofs.HandledLemmas.{handled_send}
use Rattle.lane_wire.specs.contracts.taken.Taken as Taken
use Rattle.lane_wire.specs.contracts.wire_log.WireLog as WireLog
use Rattle.lane_wire.specs.contracts.wire_sink.WireSink as WireSink
use Rattle.bridge_server.specs.contracts.sinks.LaneSocket as LaneSocket

bit : IsSend bool
bit = search sendable

log : IsSend (WireLog.the_field).row
log = search (sendable, crosses) depth 20

taken : IsSend (Taken.the_field).row
taken = search (sendable, crosses) depth 20

counts : IsSend (SendCounts.the_field).row
counts = search (sendable, crosses) depth 20 fits 20000

pub socket_send : IsSend LaneSocket.the_row
socket_send = let l = log in search (sendable, crosses) depth 20 fits 20000

pub sink_send : (W : RattleType) (g : LaneWire.Ghosts W.Denot) → IsSend W → IsSend (WireSink.the_row W g)
sink_send W g s =
    let b = bit in
    let t = taken in
    let c = counts in
    let h = handled_send in
    let a = Arc-send SharedCounts.the_row shown.the_send shown.the_sync in
    search (sendable, crosses) depth 20 fits 20000
