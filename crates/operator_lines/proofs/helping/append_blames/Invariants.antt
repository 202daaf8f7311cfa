use Rattle.std.proofs.Common.{◌≡◌, ◌++◌, take}
use Rattle.std.specs.List.{flat_map}
use Rattle.operator_lines.specs.Help.{blame_line}
use Rattle.operator_lines.proofs.helping.append_blames.Given as goal

-- what is out so far
abbrev pub invariant-loop-blame : goal.invariant-loop-blame
invariant-loop-blame l = l.out.items ≡ l.fn.out.items ++ flat_map blame_line (take l.blame-index l.blames)
