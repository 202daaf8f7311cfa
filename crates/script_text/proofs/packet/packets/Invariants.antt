use Rattle.std.proofs.Common.{◌≡◌, ◌+◌, ◌≤◌}
use Rattle.desk_text.specs.Words.{words_in, size_of}
use Rattle.script_text.specs.Packets.{source_packets_of}
use Rattle.script_text.proofs.PacketLemmas.{behind}
use Rattle.script_text.proofs.packet.packets.Given as goal

-- the packets so far stand before those of the words that are left
abbrev pub invariant-loop-left : goal.invariant-loop-left
invariant-loop-left g l = record {
  place : l.place + size_of l.left ≤ 8388617;
  packets : source_packets_of l.fn.first (words_in l.fn.words)
      ≡ behind l.packets.items (source_packets_of l.place (words_in l.left));
}

abbrev pub decreases-loop-left : goal.decreases-loop-left
decreases-loop-left g l = size_of l.left
