-- What is written and what is left make all families.
use Rattle.std.proofs.Common.{◌≡◌, ◌++◌, drop, map}
use Rattle.std.specs.List.{flat_map}
use Rattle.desk_http.specs.Metrics.{family_text}
use Rattle.desk_http.proofs.metrics.append_families.Given as goal

abbrev pub invariant-loop-family : goal.invariant-loop-family
invariant-loop-family l =
    l.out.items ++ flat_map (family_text (map (λ x. x.now) l.lines)) (drop l.family-index l.families)
    ≡ l.fn.out.items ++ flat_map (family_text (map (λ x. x.now) l.lines)) l.families
