-- What is written and what is left make all rows.
use Rattle.std.proofs.Common.{◌≡◌, ◌++◌, drop, map}
use Rattle.std.specs.List.{flat_map}
use Rattle.desk_http.specs.Rows.{row_tokens}
use Rattle.desk_http.proofs.rows.write_rows.Given as goal

abbrev pub invariant-loop-line : goal.invariant-loop-line
invariant-loop-line l =
    (l.writer.tokens ++ flat_map (row_tokens l.shape) (map (λ x. x.now) (drop l.line-index l.lines))
    ≡ l.fn.writer.tokens ++ flat_map (row_tokens l.shape) (map (λ x. x.now) l.lines))
    × (l.writer.before ≡ l.fn.writer.before)
