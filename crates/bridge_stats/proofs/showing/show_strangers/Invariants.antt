use Rattle.std.proofs.Common.{◌≡◌, ◌++◌, map}
use Rattle.bridge_stats.specs.Shown.{stranger_row}
use Rattle.bridge_stats.proofs.showing.show_strangers.Given as goal

-- the rows so far and those to come
abbrev pub invariant-loop-sender : goal.invariant-loop-sender
invariant-loop-sender g l =
    l.out.items ++ map stranger_row l.sender-iterator ≡ map stranger_row l.cache.entries
