use Rattle.std.proofs.Common.{take, Ok}
use Rattle.std.specs.List.{flat_map}
use Rattle.desk_text.specs.RowLines.{kind_lines, all_kinds}
use Rattle.desk_text.specs.inner.Growing.{buffer_of, Grows}
use Rattle.desk_text.proofs.showing.print_kinds.Given as goal

-- the lines of the kinds so far are out
abbrev pub invariant-loop-kind : goal.invariant-loop-kind
invariant-loop-kind g l =
    Grows (buffer_of l.fn.out) (buffer_of l.out) (flat_map (kind_lines l.rows) (take l.kind-index all_kinds)) (Ok tt)
