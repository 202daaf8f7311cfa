-- What is written and what is left make all shapes.
use Rattle.std.proofs.Common.{◌≡◌, ◌++◌, drop, map}
use Rattle.std.specs.List.{flat_map}
use Rattle.desk_http.specs.Rows.{shape_tokens}
use Rattle.desk_http.proofs.rows.write_shapes.Given as goal

abbrev pub invariant-loop-shape : goal.invariant-loop-shape
invariant-loop-shape l =
    (l.writer.tokens ++ flat_map (shape_tokens (map (λ x. x.now) l.lines)) (drop l.shape-index l.shapes)
    ≡ l.fn.writer.tokens ++ flat_map (shape_tokens (map (λ x. x.now) l.lines)) l.shapes)
    × (l.writer.before ≡ l.fn.writer.before)
