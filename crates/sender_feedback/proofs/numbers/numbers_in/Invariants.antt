use Rattle.std.proofs.Common.{◌≡◌, ◌++◌, drop}
use Rattle.rtcp_codec.specs.Nack.{numbers_named}
use Rattle.sender_feedback.proofs.numbers.numbers_in.Given as goal

abbrev pub invariant-loop-word : goal.invariant-loop-word
invariant-loop-word g l = l.numbers.items ++ numbers_named (drop l.word-index l.words) ≡ numbers_named l.fn.words
