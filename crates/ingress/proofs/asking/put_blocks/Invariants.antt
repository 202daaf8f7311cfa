-- The items of the blocks so far.
use Rattle.std.proofs.Common.{◌≡◌, ◌++◌, map, take}
use Rattle.media_items.specs.Inputs.{input_of}
use Rattle.ingress.specs.Control.{block_item}
use Rattle.ingress.proofs.asking.put_blocks.Given as goal

abbrev pub invariant-loop-block : goal.invariant-loop-block
invariant-loop-block g l =
    map input_of l.items.items ≡ map input_of l.fn.items.items ++ map (block_item l.from) (take l.block-index l.blocks)
