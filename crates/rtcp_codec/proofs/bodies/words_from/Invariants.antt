-- The words so far stand before the rest, which has all the others.
use Rattle.std.proofs.Common.{◌≡◌, ◌+◌, ◌*◌, ◌++◌, length}
use Rattle.std.specs.List.{flat_map, AllByRecursion}
use Rattle.rtcp_codec.specs.Nack.{word_octets, FitsWord}
use Rattle.rtcp_codec.proofs.bodies.words_from.Given as goal

abbrev pub invariant-loop : goal.invariant-loop
invariant-loop g l = record {
  fits : AllByRecursion FitsWord l.words.items;
  parts : l.octets ≡ flat_map word_octets l.words.items ++ l.rest;
  enough : length l.octets ≡ 4 * l.counter + length l.rest;
}
