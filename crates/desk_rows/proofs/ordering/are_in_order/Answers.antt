use Rattle.desk_rows.specs.laws.Words.{ap, sym, ◌∙◌, in_order}
use Rattle.desk_rows.proofs.Loops.{in_order_next}
use Rattle.desk_rows.proofs.ordering.are_in_order.Goals as goal

pub loop-row-preserved : goal.loop-row-preserved
loop-row-preserved c =
    c.loop-row.invariant ∙ ap in_order c.in-Some.ensures.cases.0
    ∙ in_order_next c.in-Some.row.now c.in-Some.later.now (sym c.precedes_first.ensures ∙ c.if-not-precedes_first.false)
