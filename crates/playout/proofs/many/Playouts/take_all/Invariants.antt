use Rattle.std.proofs.Common.{◌≡◌}
use Rattle.playout.proofs.EachSource.{HaveTaken}
use Rattle.playout.proofs.many.Playouts.take_all.Given as goal

abbrev pub invariant-loop-index : goal.invariant-loop-index
invariant-loop-index g l = record {
  renews : l.self-inside.renews ≡ l.fn.self.renews;
  taken : HaveTaken l.index l.fn.self.sources l.self-inside.table.entries;
}
