-- The words so far fit, and name the numbers before the rest; what is packed for the rest completes them.
use Rattle.std.proofs.Common.{◌≡◌, ◌++◌, length}
use Rattle.std.specs.List.{AllByRecursion}
use Rattle.rtcp_codec.specs.Nack.{numbers_named, FitsWord}
use Rattle.rtcp_codec.proofs.Packing.{GoesOn}
use Rattle.rtcp_codec.proofs.nack.nack_words.Given as goal

abbrev pub invariant-loop-rest : goal.invariant-loop-rest
invariant-loop-rest g l = record {
  names : numbers_named l.words.items ++ l.rest ≡ l.numbers;
  packed : GoesOn l.words.items l.rest;
  fits : AllByRecursion FitsWord l.words.items;
}

abbrev pub decreases-loop-rest : goal.decreases-loop-rest
decreases-loop-rest g l = length l.rest
