-- What is written and what is left make the whole family.
use Rattle.std.proofs.Common.{◌≡◌, ◌++◌, drop, map}
use Rattle.std.specs.List.{flat_map}
use Rattle.desk_http.specs.Metrics.{family_text, sample}
use Rattle.desk_http.proofs.metrics.append_family.Given as goal

abbrev pub invariant-loop-line : goal.invariant-loop-line
invariant-loop-line l =
    l.out.items ++ flat_map (sample l.family) (map (λ x. x.now) (drop l.line-index l.lines))
    ≡ l.fn.out.items ++ family_text (map (λ x. x.now) l.lines) l.family
