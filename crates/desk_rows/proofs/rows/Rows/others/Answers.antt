use Rattle.desk_rows.specs.laws.Words.{ap, ◌∙◌, in_order}
use Rattle.desk_rows.specs.laws.Laws.{good_order}
use Rattle.desk_rows.proofs.rows.Rows.others.Goals as goal

pub returns-clause-order : goal.returns-clause-order
returns-clause-order g c = ap in_order c.deref.ensures.value ∙ good_order _ c.self.invariant.0
