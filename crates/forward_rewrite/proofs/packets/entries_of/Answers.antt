use Rattle.std.proofs.Common.{arith}
use Rattle.forward_rewrite.specs.RoutedList.{part_of}
use Rattle.forward_rewrite.specs.inner.Sharing.{stamped_by}
use Rattle.forward_rewrite.proofs.Numbers.{numbered_pushed}
use Rattle.forward_rewrite.proofs.packets.entries_of.Goals as goal

pub loop-packet-preserved : goal.loop-packet-preserved
loop-packet-preserved g c = record {
  number = omega arith;
  packets =
      numbered_pushed (part_of (stamped_by c.args.shared.now c.args.frame.now)) c.args.shared.now.ssrc c.args.first
      c.loop-packet.packet-index _ c.packet-item.result _ _ _ c.loop-packet.number c.in_ok-one.one (omega arith)
      c.packet-item.is c.loop-packet.invariant.number c.in_ok-one.ensures c.in_ok-push.ensures.items
      c.loop-packet.invariant.packets;
}
