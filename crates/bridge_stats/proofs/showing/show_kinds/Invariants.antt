use Rattle.std.proofs.Common.{◌≡◌, map, take}
use Rattle.bridge_stats.specs.Shown.{kind_row}
use Rattle.bridge_stats.proofs.showing.show_kinds.Given as goal

-- the rows so far
abbrev pub invariant-loop-kind : goal.invariant-loop-kind
invariant-loop-kind l = l.out.items ≡ map (kind_row l.tally) (take l.kind-index l.kinds)
