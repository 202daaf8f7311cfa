-- The size so far and that of what is left make the whole, and the packets so far can be written.
use Rattle.std.proofs.Common.{◌≡◌, ◌+◌, ◌*◌, ◌≤◌, length, drop}
use Rattle.std.specs.List.{AllByRecursion}
use Rattle.rtcp_codec.specs.declared.fault.WriteFault.{WriteFault}
use Rattle.rtcp_codec.specs.Compound.{written}
use Rattle.rtcp_codec.specs.View.{packets_of}
use Rattle.rtcp_codec.specs.WriteFault.{most_octets, IsWritable, HasPacketFault}
use Rattle.rtcp_codec.proofs.checking.compound_size.Given as goal

abbrev pub invariant-loop-packet : goal.invariant-loop-packet
invariant-loop-packet g l = record {
  size : l.total + length (written (packets_of (drop l.packet-index l.packets)))
      ≡ length (written (packets_of l.packets));
  most : l.total ≤ (4 + most_octets) * l.packet-index;
  good : AllByRecursion IsWritable (packets_of (drop l.packet-index l.packets))
      → AllByRecursion IsWritable (packets_of l.packets);
  fault : (f : WriteFault) → HasPacketFault f (packets_of (drop l.packet-index l.packets))
      → HasPacketFault f (packets_of l.packets);
}
