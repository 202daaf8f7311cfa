use Rattle.std.proofs.Common.{take, Ok}
use Rattle.std.specs.List.{flat_map}
use Rattle.desk_text.specs.inner.Growing.{buffer_of, Grows}
use Rattle.desk_text.specs.inner.Pieces.{line_of_group}
use Rattle.desk_text.proofs.groups.append_groups.Given as goal

-- what is out so far
abbrev pub invariant-loop-group : goal.invariant-loop-group
invariant-loop-group g l =
    Grows (buffer_of l.fn.out) (buffer_of l.out) (flat_map line_of_group (take l.group-index l.groups)) (Ok tt)
