use Rattle.std.proofs.Common.{◌≡◌, ◌≤◌, ◌+◌, length, drop}
use Rattle.playout.specs.inner.Cells.{cells_of, fills, news}
use Rattle.playout.proofs.places.fill_each.Given as goal

abbrev pub invariant-loop-k : goal.invariant-loop-k
invariant-loop-k l = record {
  long : length l.present ≡ length l.fn.present;
  alike : length l.samples ≡ length l.present;
  most : l.count ≤ l.k;
  cells : fills (cells_of l.present l.samples) (l.at + l.k) (drop l.k l.new)
      ≡ fills (cells_of l.fn.present l.fn.samples) l.at l.new;
  count : l.count + news (cells_of l.present l.samples) (l.at + l.k) (drop l.k l.new)
      ≡ news (cells_of l.fn.present l.fn.samples) l.at l.new;
}
