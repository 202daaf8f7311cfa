-- What was written and what is left make the whole, and the capacity suffices for it.
use Rattle.std.proofs.Common.{◌≡◌, ◌+◌, ◌≤◌, ◌++◌, length, drop, vec_len, vec_capacity}
use Rattle.std.specs.List.{AllByRecursion}
use Rattle.rtcp_codec.specs.Compound.{written}
use Rattle.rtcp_codec.specs.Packet.{FitsTypes}
use Rattle.rtcp_codec.specs.View.{packets_of}
use Rattle.rtcp_codec.specs.WriteFault.{IsWritable}
use Rattle.rtcp_codec.proofs.writing.append_packets.Given as goal

abbrev pub invariant-loop-packet : goal.invariant-loop-packet
invariant-loop-packet g l = record {
  items : l.out.items ++ written (packets_of (drop l.packet-index l.packets))
      ≡ l.fn.out.items ++ written (packets_of l.packets);
  len : vec_len l.out + length (written (packets_of (drop l.packet-index l.packets)))
      ≡ vec_len l.fn.out + length (written (packets_of l.packets));
  capacity : vec_capacity l.fn.out ≤ vec_capacity l.out;
  writable : AllByRecursion IsWritable (packets_of (drop l.packet-index l.packets));
  types : AllByRecursion FitsTypes (packets_of (drop l.packet-index l.packets))
      → AllByRecursion FitsTypes (packets_of l.packets);
}
