use Rattle.std.proofs.Common.{◌≡◌, ◌++◌, map, All}
use Rattle.bridge_stats.specs.Shown.{source_row, counts_in, TellsReception}
use Rattle.bridge_stats.proofs.showing.show_sources.Given as goal

-- the rows so far and those to come; and each so far tells how its source is received
abbrev pub invariant-loop-sender : goal.invariant-loop-sender
invariant-loop-sender g l = record {
  counts : map counts_in l.out.items ++ map (source_row l.now) l.sender-iterator
      ≡ map (source_row l.now) l.cache.entries;
  receptions : All (TellsReception l.ingress) l.out.items;
}
