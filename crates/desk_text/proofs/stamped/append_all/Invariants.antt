use Rattle.std.proofs.Common.{take, Ok}
use Rattle.std.specs.List.{flat_map}
use Rattle.desk_text.specs.inner.Growing.{buffer_of, Grows}
use Rattle.desk_text.specs.StampedText.{told_line}
use Rattle.desk_text.proofs.stamped.append_all.Given as goal

-- what is out so far
abbrev pub invariant-loop-call : goal.invariant-loop-call
invariant-loop-call g l =
    Grows (buffer_of l.fn.out) (buffer_of l.out) (flat_map (told_line l.is_named) (take l.call-index l.all)) (Ok tt)
