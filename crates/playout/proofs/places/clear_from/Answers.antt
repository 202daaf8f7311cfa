use Rattle.std.proofs.Common.{◌∙◌, ap, sym, List, Bool, length}
use Rattle.std.proofs.lemmas.List.{with_items_is}
use Rattle.playout.specs.inner.Cells.{cells_of, emptied}
use Rattle.playout.proofs.places.clear_from.Goals as goal

pub returns-clause-cells : goal.returns-clause-cells
returns-clause-cells g c =
    let whole = with_items_is c.args.present.now c.clear.new.present (c.clear.ensures.long ∙ c.deref_mut.ensures.len) in
    (λ i. cells_of (whole i) (sym c.deref.ensures.value i)) ∙ c.clear.ensures.cells
    ∙ (λ i. emptied c.args.at c.args.count (cells_of (c.deref_mut.ensures.value i) (c.deref.ensures.value i)))

pub returns-clause-long : goal.returns-clause-long
returns-clause-long g c =
    ap (λ (ps : List Bool). length ps)
    (with_items_is c.args.present.now c.clear.new.present (c.clear.ensures.long ∙ c.deref_mut.ensures.len))
    ∙ c.clear.ensures.long ∙ ap (λ (ps : List Bool). length ps) c.deref_mut.ensures.value
