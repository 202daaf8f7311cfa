-- What was written and what is left make the whole, and the capacity suffices for it.
use Rattle.std.proofs.Common.{◌≡◌, ◌+◌, ◌≤◌, ◌++◌, length, drop, vec_len, vec_capacity}
use Rattle.std.specs.List.{flat_map, AllByRecursion}
use Rattle.rtcp_codec.specs.Nack.{word_octets, FitsWord}
use Rattle.rtcp_codec.proofs.writing.append_words.Given as goal

abbrev pub invariant-loop-word : goal.invariant-loop-word
invariant-loop-word g l = record {
  items : l.out.items ++ flat_map word_octets (drop l.word-index l.words)
      ≡ l.fn.out.items ++ flat_map word_octets l.words;
  len : vec_len l.out + length (flat_map word_octets (drop l.word-index l.words))
      ≡ vec_len l.fn.out + length (flat_map word_octets l.words);
  capacity : vec_capacity l.fn.out ≤ vec_capacity l.out;
  fits : AllByRecursion FitsWord (drop l.word-index l.words) → AllByRecursion FitsWord l.words;
}
