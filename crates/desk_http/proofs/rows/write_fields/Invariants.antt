-- What is written and what is left make all fields.
use Rattle.std.proofs.Common.{◌≡◌, ◌++◌, drop, map}
use Rattle.std.specs.List.{flat_map}
use Rattle.desk_http.specs.Rows.{field_tokens}
use Rattle.desk_http.proofs.rows.write_fields.Given as goal

abbrev pub invariant-loop-field : goal.invariant-loop-field
invariant-loop-field l =
    (l.writer.tokens ++ flat_map (field_tokens l.line (map (λ x. x.now) l.words)) (drop l.field-index l.fields)
    ≡ l.fn.writer.tokens ++ flat_map (field_tokens l.line (map (λ x. x.now) l.words)) l.fields)
    × (l.writer.before ≡ l.fn.writer.before)
