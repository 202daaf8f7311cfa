-- No line so far has the word.
use Rattle.std.proofs.Common.{◌≡◌, drop, map}
use Rattle.desk_http.specs.ZeroLines.{has_line}
use Rattle.desk_http.proofs.zero_lines.has_line.Given as goal

abbrev pub invariant-loop-line : goal.invariant-loop-line
invariant-loop-line l =
    has_line l.word (map (λ x. x.now) (drop l.line-index l.lines)) ≡ has_line l.fn.word (map (λ x. x.now) l.lines)
