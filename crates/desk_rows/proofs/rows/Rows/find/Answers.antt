use Rattle.desk_rows.specs.laws.Words.{sym, subst, IsIndex}
use Rattle.desk_rows.proofs.rows.Rows.find.Goals as goal

pub row_with-requires-clause-index : goal.row_with-requires-clause-index
row_with-requires-clause-index g c =
    subst (λ es. IsIndex c.deref.result.now es) (sym c.deref-2.ensures.value)
    (subst (λ ms. IsIndex ms c.self.inside.index.items) (sym c.deref.ensures.value) c.self.invariant.1)
