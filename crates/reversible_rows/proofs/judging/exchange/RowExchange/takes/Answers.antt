use Rattle.desk_rows.proofs.AbsorbLemmas.{orders_of}
use Rattle.reversible_rows.proofs.judging.exchange.RowExchange.takes.Goals as goal

pub takes-requires-clause-taken : goal.takes-requires-clause-taken
takes-requires-clause-taken g c = let x = c.args.self.now in (orders_of x.rows.now x.edit.now x.apt).taken

pub takes-requires-clause-old : goal.takes-requires-clause-old
takes-requires-clause-old g c = let x = c.args.self.now in (orders_of x.rows.now x.edit.now x.apt).old
