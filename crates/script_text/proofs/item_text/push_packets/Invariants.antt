use Rattle.std.proofs.Common.{◌≡◌, ◌+◌, ◌++◌, length, map, take}
use Rattle.desk_text.specs.Shown.{said}
use Rattle.script_text.specs.inner.Shown.{packet_word}
use Rattle.script_text.proofs.item_text.push_packets.Given as goal

-- the words so far
abbrev pub invariant-loop-packet : goal.invariant-loop-packet
invariant-loop-packet g l = record {
  count : length l.words.items ≡ length l.fn.words.items + l.packet-index;
  words : map said l.words.items ≡ map said l.fn.words.items ++ map packet_word (take l.packet-index l.packets);
}
