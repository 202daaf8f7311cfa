use Rattle.std.proofs.Common.{take, Ok}
use Rattle.std.specs.List.{flat_map}
use Rattle.desk_text.specs.inner.Growing.{buffer_of, Grows}
use Rattle.desk_text.specs.inner.Pieces.{next_value}
use Rattle.desk_text.proofs.telling.append_values.Given as goal

-- what is out so far
abbrev pub invariant-loop-value : goal.invariant-loop-value
invariant-loop-value g l =
    Grows (buffer_of l.fn.out) (buffer_of l.out) (flat_map next_value (take l.value-index l.values)) (Ok tt)
