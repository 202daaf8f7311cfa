use Rattle.std.proofs.Common.{take, Ok}
use Rattle.std.specs.List.{flat_map}
use Rattle.desk_text.specs.inner.Growing.{buffer_of, Grows}
use Rattle.desk_text.specs.inner.Pieces.{other_part}
use Rattle.desk_text.proofs.telling.append_others.Given as goal

-- what is out so far
abbrev pub invariant-loop-command : goal.invariant-loop-command
invariant-loop-command g l =
    Grows (buffer_of l.fn.out) (buffer_of l.out) (flat_map other_part (take l.command-index l.commands)) (Ok tt)
