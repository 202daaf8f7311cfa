use Rattle.std.proofs.Common.{◌≡◌, ◌*◌, take}
use Rattle.script_text.specs.ItemLines.{pair_numbers}
use Rattle.script_text.proofs.pairs.paired.Given as goal

-- the numbers so far
abbrev pub invariant-loop-i : goal.invariant-loop-i
invariant-loop-i g l = l.numbers.items ≡ pair_numbers (take (2 * l.i) l.octets)
