-- What is written and what is left make all families.
use Rattle.std.proofs.Common.{◌≡◌, ◌++◌, drop, map}
use Rattle.std.specs.List.{flat_map}
use Rattle.desk_http.specs.Metrics.{families_text}
use Rattle.desk_http.proofs.metrics.append_tables.Given as goal

abbrev pub invariant-loop-families : goal.invariant-loop-families
invariant-loop-families l =
    l.out.items ++ flat_map (λ families. families_text (map (λ x. x.now) l.lines) families.now)
    (drop l.families-index l.tables)
    ≡ l.fn.out.items ++ flat_map (λ families. families_text (map (λ x. x.now) l.lines) families.now) l.tables
