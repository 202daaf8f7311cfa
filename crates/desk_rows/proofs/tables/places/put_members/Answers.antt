use Rattle.desk_rows.specs.laws.Words.{arith, common_steps}
use Rattle.desk_rows.proofs.tables.places.put_members.Goals as goal

pub loop-first-preserved : goal.loop-first-preserved
loop-first-preserved c = grind (arith, common_steps)
