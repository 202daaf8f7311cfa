use Rattle.std.proofs.Common.{◌≤◌, length, ◌∙◌, sym, arith}
use Rattle.std.proofs.lemmas.List.Sums.{length-filter}
use Rattle.desk_rows.specs.Kinds.{is_of}
use Rattle.desk_rows.specs.Desk.{rows_of, rows_of_kind}
use Rattle.desk_text.specs.RowLines.{kind_lines}
use Rattle.desk_text.specs.inner.Growing.{buffer_of}
use Rattle.desk_text.proofs.GrowLemmas.{grows_err}
use Rattle.desk_text.proofs.RowLemmas.{on_way, next_line, line_short, no_line, last_line}
use Rattle.desk_text.proofs.showing.print_kind.Goals.{in-Some+in_ok-print_row, in_default}
use Rattle.desk_text.proofs.showing.print_kind.Goals as goal

pub loop-place-init : goal.loop-place-init
loop-place-init g c = on_way (buffer_of c.args.out.now) (rows_of_kind c.args.kind c.args.rows.now)

pub loop-place-preserved : goal.loop-place-preserved
loop-place-preserved g c =
    let rs = rows_of_kind c.args.kind c.args.rows.now in
    let old = buffer_of c.args.out.now in
    let mid = buffer_of c.loop-place.out in
    let all = kind_lines c.args.rows.now c.args.kind in
    elim c.match-at.branch [
      | in-Some+in_ok-print_row w ↦
          rw w.out-is (next_line old mid _ rs c.loop-place.place w.in-Some.row all (sym c.at.ensures ∙ w.in-Some.is)
          c.loop-place.invariant w.in_ok-print_row.ensures)
      | in_default w ↦
          rw w.out-is
          (no_line old mid rs c.loop-place.place all (sym c.at.ensures ∙ w.in_default.is) c.loop-place.invariant)
    ]

pub returns-in_err-print_row : goal.returns-in_err-print_row
returns-in_err-print_row g c =
    let rs = rows_of_kind c.args.kind c.args.rows.now in
    let old = buffer_of c.args.out.now in
    let mid = buffer_of c.loop-place.out in
    let new = buffer_of c.print_row.new.out in
    let e = c.in_err-print_row.field-0.0 in
    let all = kind_lines c.args.rows.now c.args.kind in
    grows_err old new all _ e c.from_residual.ensures.0
    (line_short old mid new rs c.loop-place.place c.in-Some.row all e (sym c.at.ensures ∙ c.in-Some.is)
    c.loop-place.invariant c.in_err-print_row.ensures)

pub returns : goal.returns
returns g c =
    let rs = rows_of_kind c.args.kind c.args.rows.now in
    let all_seen : length rs ≤ c.loop-place.place =
    omega (
      arith,
      length-filter (is_of c.args.kind) (rows_of c.args.rows.now),
      c.count-place-end.ensures,
      c.loop-place-test.false,
    ) in
    last_line (buffer_of c.args.out.now) (buffer_of c.loop-place.out) rs c.loop-place.place
    (kind_lines c.args.rows.now c.args.kind) all_seen c.loop-place.invariant
