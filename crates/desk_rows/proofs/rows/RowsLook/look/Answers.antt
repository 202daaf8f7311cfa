use Rattle.desk_rows.proofs.Finding.{keyed_good}
use Rattle.desk_rows.proofs.rows.RowsLook.look.Goals as goal

pub returns-clause-keyed : goal.returns-clause-keyed
returns-clause-keyed g c = keyed_good c.args.self.now c.find.ensures.good
