use Rattle.std.proofs.Common.{take, Ok}
use Rattle.std.specs.List.{flat_map}
use Rattle.bridge_stats.specs.Levels.{level_text}
use Rattle.bridge_stats.specs.inner.Growing.{buffer_of, Grows}
use Rattle.bridge_stats.proofs.levels.append_levels.Given as goal

-- what is out so far
abbrev pub invariant-loop-row : goal.invariant-loop-row
invariant-loop-row g l =
    Grows (buffer_of l.fn.out) (buffer_of l.out) (flat_map level_text (take l.row-index l.rows)) (Ok tt)
