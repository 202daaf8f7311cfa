-- The packets so far and those of what is left are those of the frame.
use Rattle.std.proofs.Common.{◌≡◌, ◌+◌, ◌%◌, ◌^◌, ◌++◌, map, drop}
use Rattle.forward_rewrite.specs.RoutedList.{part_of, numbered}
use Rattle.forward_rewrite.specs.inner.Sharing.{stamped_by}
use Rattle.forward_rewrite.proofs.packets.entries_of.Given as goal

abbrev pub invariant-loop-packet : goal.invariant-loop-packet
invariant-loop-packet g l =
    let part = part_of (stamped_by l.shared l.frame) in
    record {
      number : l.number ≡ (l.first + l.packet-index) % 2 ^ 16;
      packets : l.entries.items
          ++ numbered l.shared.ssrc (l.first + l.packet-index) (map part (drop l.packet-index l.packets))
          ≡ numbered l.shared.ssrc l.first (map part l.packets);
    }
