use Rattle.std.proofs.Common.{◌≡◌, Some, take}
use Rattle.std.specs.Prelude.{fold}
use Rattle.udp_table.specs.Words.{number_with}
use Rattle.udp_table.proofs.word.word_number.Given as goal

abbrev pub invariant-loop-octet : goal.invariant-loop-octet
invariant-loop-octet l = l.number ≡ fold number_with (Some 0) (take l.octet-index l.word)
