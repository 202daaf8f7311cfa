use Rattle.std.proofs.Common.{subst}
use Rattle.rtcp_codec.specs.View.{packet_of}
use Rattle.bridge_stats.specs.Paths.{IsPacketNoted}
use Rattle.bridge_stats.proofs.Folds.{more, none_left, folds_map}
use Rattle.bridge_stats.proofs.path_table.PathTable.note_packets.Goals as goal

pub loop-packet-init : goal.loop-packet-init
loop-packet-init g c = λ end h. h

pub loop-packet-preserved : goal.loop-packet-preserved
loop-packet-preserved g c =
    let xs = c.args.packets.now in
    let old = c.loop-packet.self in
    let new = c.note_packet.new.self in
    let noted =
    subst (λ p. IsPacketNoted c.args.rows.now c.args.from.now c.args.moment old (packet_of p) new)
    c.packet-item.is c.note_packet.ensures in
    λ end h. c.loop-packet.invariant end
    (more (λ a p b. IsPacketNoted c.args.rows.now c.args.from.now c.args.moment a (packet_of p) b) xs
    c.loop-packet.packet-index c.packet-item.result old new end c.loop-packet-test.true noted h)

pub returns : goal.returns
returns g c =
    folds_map (IsPacketNoted c.args.rows.now c.args.from.now c.args.moment) packet_of c.args.packets.now c.args.self.now
    c.loop-packet.self
    (c.loop-packet.invariant c.loop-packet.self
    (none_left (λ a p b. IsPacketNoted c.args.rows.now c.args.from.now c.args.moment a (packet_of p) b)
    c.args.packets.now c.loop-packet.packet-index c.loop-packet.self c.loop-packet-test.false))
