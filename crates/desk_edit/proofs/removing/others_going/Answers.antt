use Rattle.std.specs.Prelude.{◌≡◌}
use Rattle.desk_edit.proofs.Words.{List, IfOk, sym, ap, ◌∙◌, subst, list_any, Row, goes_with, level, found_list}
use Rattle.desk_rows.specs.declared.row.Row.TheVariants as rows
use Rattle.desk_edit.proofs.removing.others_going.Goals as goal
use Rattle.desk_edit.proofs.GoingLemmas.{goes_alone}

pub returns-then-level-eq3-clause-others : goal.returns-then-level-eq3-clause-others
returns-then-level-eq3-clause-others g c =
    let top = sym (c.level.ensures ∙ ap level c.kind.ensures) ∙ c.if-level-eq3.true in
    let same = ap found_list c.find.ensures.row ∙ goes_alone c.args.rows.now c.args.key c.find.ensures.good top in
    subst (λ (xs : List Row). IfOk c.found_alone.result (λ v. v.items ≡ xs)) same c.found_alone.ensures

pub with-requires-clause-nobody : goal.with-requires-clause-nobody
with-requires-clause-nobody g c none =
    (λ i.
    list_any (λ m. goes_with (c.of.ensures.rows i) (c.of.ensures.key i) (rows.Member m)) (c.of.ensures.rows i).members)
    ∙ c.requires none
