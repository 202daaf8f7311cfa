use Rattle.desk_rows.proofs.AbsorbLemmas.{orders_of}
use Rattle.reversible_rows.proofs.judging.exchange.RowExchange.coming.Goals as goal

pub coming-requires-clause-put : goal.coming-requires-clause-put
coming-requires-clause-put g c = let x = c.args.self.now in (orders_of x.rows.now x.edit.now x.apt).put

pub coming-requires-clause-new : goal.coming-requires-clause-new
coming-requires-clause-new g c = let x = c.args.self.now in (orders_of x.rows.now x.edit.now x.apt).new
