use Rattle.std.proofs.Common.{drop}
use Rattle.std.specs.List.{FoldsTo}
use Rattle.rtcp_codec.specs.View.{packet_of}
use Rattle.bridge_stats.specs.declared.path.PathReport.{PathReport}
use Rattle.bridge_stats.specs.Tables.{TableOf}
use Rattle.bridge_stats.specs.Paths.{IsPacketNoted}
use Rattle.bridge_stats.proofs.path_table.PathTable.note_packets.Given as goal

-- whatever comes of the packets that are left comes of all
abbrev pub invariant-loop-packet : goal.invariant-loop-packet
invariant-loop-packet g l =
    (end : TableOf PathReport)
    → FoldsTo (λ old packet new. IsPacketNoted l.rows l.from l.moment old (packet_of packet) new) l.self
    (drop l.packet-index l.packets) end
    → FoldsTo (λ old packet new. IsPacketNoted l.rows l.from l.moment old (packet_of packet) new) l.fn.self l.packets
    end
