use Rattle.desk_edit.proofs.Words.{sym, ◌∙◌}
use Rattle.desk_edit.proofs.going.Going.told.Goals as goal
use Rattle.desk_edit.proofs.GoingLemmas.{none_goes, same_goes}

pub returns-then-is_same : goal.returns-then-is_same
returns-then-is_same g c n =
    let x = c.args.self.now in
    x.there ∙ sym (same_goes x.rows.now n x.key c.args.name (sym c.is_same.ensures ∙ c.if-is_same.true))

pub returns-then-not-is_above : goal.returns-then-not-is_above
returns-then-not-is_above g c n =
    let x = c.args.self.now in
    sym (none_goes x.rows.now n x.key c.args.name (sym c.is_above.ensures ∙ c.if-not-is_above.true)
    (sym c.is_same.ensures ∙ c.if-is_same.false))
