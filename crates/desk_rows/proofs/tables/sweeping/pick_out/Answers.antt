use Rattle.desk_rows.specs.laws.Words.{rules, filter_same}
use Rattle.desk_rows.proofs.tables.sweeping.pick_out.Goals as goal

pub returns-clause-items : goal.returns-clause-items
returns-clause-items g c = filter_same _ _ _ (λ x b f k. search rules) _ _ c.retain.ensures.filtered
