use Rattle.std.proofs.Common.{◌≡◌, ◌++◌, take}
use Rattle.std.specs.List.{flat_map}
use Rattle.operator_lines.specs.Help.{place_line}
use Rattle.operator_lines.proofs.helping.append_places.Given as goal

-- what is out so far
abbrev pub invariant-loop-place : goal.invariant-loop-place
invariant-loop-place l = l.out.items ≡ l.fn.out.items ++ flat_map place_line (take l.place-index l.places)
