use Rattle.std.proofs.Common.{drop}
use Rattle.std.specs.List.{FoldsTo}
use Rattle.bridge_stats.specs.declared.path.PathReport.{PathReport}
use Rattle.bridge_stats.specs.Tables.{TableOf}
use Rattle.bridge_stats.specs.Paths.{IsBlockNoted}
use Rattle.bridge_stats.proofs.path_table.PathTable.note_blocks.Given as goal

-- whatever comes of the blocks that are left comes of all
abbrev pub invariant-loop-block : goal.invariant-loop-block
invariant-loop-block g l =
    (end : TableOf PathReport) → FoldsTo (IsBlockNoted l.rows l.from l.moment) l.self (drop l.block-index l.blocks) end
    → FoldsTo (IsBlockNoted l.rows l.from l.moment) l.fn.self l.blocks end
