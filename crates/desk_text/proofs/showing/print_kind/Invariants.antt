use Rattle.std.proofs.Common.{drop}
use Rattle.desk_rows.specs.Desk.{rows_of_kind}
use Rattle.desk_text.specs.RowLines.{rows_text, kind_lines}
use Rattle.desk_text.specs.inner.Growing.{buffer_of}
use Rattle.desk_text.proofs.RowLemmas.{IsOnWay}
use Rattle.desk_text.proofs.showing.print_kind.Given as goal

-- the lines so far are out, and with those of the rows from here on they are all
abbrev pub invariant-loop-place : goal.invariant-loop-place
invariant-loop-place g l =
    IsOnWay (buffer_of l.fn.out) (buffer_of l.out) (rows_text l.place (drop l.place (rows_of_kind l.kind l.rows)))
    (kind_lines l.rows l.kind)
