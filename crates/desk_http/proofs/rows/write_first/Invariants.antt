-- No line so far was of the kind.
use Rattle.std.proofs.Common.{◌≡◌, drop, map}
use Rattle.desk_http.specs.Rows.{first_tokens}
use Rattle.desk_http.proofs.rows.write_first.Given as goal

abbrev pub invariant-loop-line : goal.invariant-loop-line
invariant-loop-line l =
    (first_tokens l.shape (map (λ x. x.now) (drop l.line-index l.lines))
    ≡ first_tokens l.shape (map (λ x. x.now) l.lines))
    × (l.writer.tokens ≡ l.fn.writer.tokens) × (l.writer.before ≡ l.fn.writer.before)
