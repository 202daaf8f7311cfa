use Rattle.bridge_stats.specs.Paths.{IsBlockNoted}
use Rattle.bridge_stats.proofs.Folds.{more, none_left}
use Rattle.bridge_stats.proofs.path_table.PathTable.note_blocks.Goals as goal

pub loop-block-init : goal.loop-block-init
loop-block-init g c = λ end h. h

pub loop-block-preserved : goal.loop-block-preserved
loop-block-preserved g c =
    let step = IsBlockNoted c.args.rows.now c.args.from.now c.args.moment in
    let xs = c.args.blocks.now in
    let old = c.loop-block.self in
    let new = c.note_block.new.self in
    λ end h. c.loop-block.invariant end
    (more step xs c.loop-block.block-index _ old new end c.loop-block-test.true c.note_block.ensures h)

pub returns : goal.returns
returns g c =
    c.loop-block.invariant c.loop-block.self
    (none_left (IsBlockNoted c.args.rows.now c.args.from.now c.args.moment) c.args.blocks.now
    c.loop-block.block-index c.loop-block.self c.loop-block-test.false)
