-- A lane's sink may go to another thread, where the handle that its wire holds may.
use denote.RattleType.{RattleType}
use denote.Builtin.{bool}
use denote.Struct.Struct.{Struct}
use denote.Struct.Declared.{fields, shape}
use denote.Param.Send.{IsSend, IsSync, AllSend, struct_send, recorded_send, sendable}
use Rattle.std.proofs.Crossing.{crosses, send, Arc-send}
use Rattle.lane_wire.specs.declared.sending.LaneWire as LaneWire
use Rattle.lane_wire.specs.contracts.counts.SendCounts as SendCounts
use Rattle.lane_wire.specs.contracts.shared_counts.SharedCounts as SharedCounts
use Rattle.lane_wire.proofs.shared_counts.SharedCounts.TheSendSync as shown
use Rattle.lane_wire.proofs.HandledLemmas.{handled_send}
use Rattle.lane_wire.specs.contracts.taken.Taken as Taken
use Rattle.lane_wire.specs.contracts.wire_log.WireLog as WireLog
use Rattle.lane_wire.specs.contracts.wire_sink.WireSink as WireSink
use Rattle.x_simulation.specs.contracts.datagram.Datagram as Datagram
use Rattle.x_simulation.specs.contracts.fate.Fate as Fate
use Rattle.x_simulation.specs.contracts.gate.Gate as Gate
use Rattle.x_simulation.specs.contracts.gate.Passage as Passage
use Rattle.x_simulation.specs.contracts.sink.FatedWire as FatedWire
use Rattle.x_simulation.specs.contracts.sink.Tries as Tries

bit : IsSend bool
bit = search sendable

datagram : IsSend (Datagram.the_field).row
datagram = search (sendable, crosses) depth 20

passage : IsSend (Passage.the_field).row
passage = let d = datagram in search (sendable, crosses) depth 20

gate_send : IsSend Gate.the_row
gate_send = let p = passage in search (sendable, crosses) depth 20

gate_sync : IsSync Gate.the_row
gate_sync = let p = passage in search (sendable, crosses) depth 20

fate : IsSend (Fate.the_field).row
fate = search (sendable, crosses) depth 20

tries : IsSend (Tries.the_field).row
tries = let d = datagram in let f = fate in let h = send in search (sendable, crosses) depth 20 fits 20000

log : IsSend (WireLog.the_field).row
log = search (sendable, crosses) depth 20

taken : IsSend (Taken.the_field).row
taken = search (sendable, crosses) depth 20

counts : IsSend (SendCounts.the_field).row
counts = search (sendable, crosses) depth 20 fits 20000

pub wire_send : (R : RattleType) → IsSend R → IsSend (FatedWire.the_row R)
wire_send R s =
    let T = FatedWire.the_type R in
    let all : AllSend (fields T) = (s, (Arc-send Gate.the_row gate_send gate_sync, (tries, (log, tt)))) in
    recorded_send (Struct (shape T)) T.D T.to T.to_one (struct_send (shape T) all)

pub sink_send : (W : RattleType) (g : LaneWire.Ghosts W.Denot) → IsSend W → IsSend (WireSink.the_row W g)
sink_send W g s =
    let b = bit in
    let t = taken in
    let c = counts in
    let h = handled_send in
    let a = Arc-send SharedCounts.the_row shown.the_send shown.the_sync in
    search (sendable, crosses) depth 20 fits 20000
