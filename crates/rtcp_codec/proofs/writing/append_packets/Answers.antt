use Rattle.std.proofs.Common.{◌+◌, ◌++◌, ℕ, List, drop, ap, subst, sym, ◌∙◌, append_assoc, arith}
use Rattle.std.specs.List.{AllByRecursion}
use Rattle.rtcp_codec.specs.Compound.{written}
use Rattle.rtcp_codec.specs.Packet.{FitsTypes, written_packet}
use Rattle.rtcp_codec.specs.View.{packet_of, packets_of}
use Rattle.rtcp_codec.proofs.Lists.{mapped_left, nothing_left}
use Rattle.rtcp_codec.proofs.WrittenLemmas.{written_size, written_left, all_left, first_left}
use Rattle.rtcp_codec.proofs.writing.append_packets.Goals as goal

pub append_packet-requires-clause-writable : goal.append_packet-requires-clause-writable
append_packet-requires-clause-writable g c =
    (first_left _ _ _
    (mapped_left packet_of c.args.packets.now c.loop-packet.packet-index c.packet-item.result c.loop-packet-test.true
    c.packet-item.is)
    c.loop-packet.invariant.writable).0

pub append_packet-requires-clause-capacity : goal.append_packet-requires-clause-capacity
append_packet-requires-clause-capacity g c =
    let left =
    mapped_left packet_of c.args.packets.now c.loop-packet.packet-index c.packet-item.result c.loop-packet-test.true
    c.packet-item.is in
    omega (arith, written_size _ _ _ left, c.loop-packet.invariant.len, c.requires.capacity)

pub loop-packet-preserved : goal.loop-packet-preserved
loop-packet-preserved g c =
    let left =
    mapped_left packet_of c.args.packets.now c.loop-packet.packet-index c.packet-item.result c.loop-packet-test.true
    c.packet-item.is in
    let rest = written (packets_of (drop (c.loop-packet.packet-index + 1) c.args.packets.now)) in
    let one = written_packet (packet_of c.packet-item.result) in
    record {
      items =
          ap (λ (l : List ℕ). l ++ rest) c.append_packet.ensures.items
          ∙ append_assoc c.loop-packet.out.items one rest
          ∙ ap (λ (l : List ℕ). c.loop-packet.out.items ++ l) (sym (written_left _ _ _ left))
          ∙ c.loop-packet.invariant.items;
      len = omega (arith, written_size _ _ _ left, c.loop-packet.invariant.len, c.append_packet.ensures.len);
      capacity = omega arith;
      writable = (first_left _ _ _ left c.loop-packet.invariant.writable).1;
      types = λ h. c.loop-packet.invariant.types (all_left FitsTypes _ _ _ left c.append_packet.ensures.types h);
    }

pub returns-clause-types : goal.returns-clause-types
returns-clause-types g c =
    c.loop-packet.invariant.types (subst (AllByRecursion FitsTypes)
    (sym (nothing_left packet_of c.args.packets.now c.loop-packet.packet-index c.loop-packet-test.false)) tt)
