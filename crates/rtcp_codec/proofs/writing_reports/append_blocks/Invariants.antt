-- What was written and what is left make the whole, and the capacity suffices for it.
use Rattle.std.proofs.Common.{◌≡◌, ◌+◌, ◌≤◌, ◌++◌, length, drop, vec_len, vec_capacity}
use Rattle.std.specs.List.{flat_map, AllByRecursion}
use Rattle.rtcp_codec.specs.Report.{block_octets, FitsBlock, FitsLost}
use Rattle.rtcp_codec.proofs.writing_reports.append_blocks.Given as goal

abbrev pub invariant-loop-block : goal.invariant-loop-block
invariant-loop-block g l = record {
  items : l.out.items ++ flat_map block_octets (drop l.block-index l.blocks)
      ≡ l.fn.out.items ++ flat_map block_octets l.blocks;
  len : vec_len l.out + length (flat_map block_octets (drop l.block-index l.blocks))
      ≡ vec_len l.fn.out + length (flat_map block_octets l.blocks);
  lost : AllByRecursion (λ b. FitsLost b.lost) (drop l.block-index l.blocks);
  capacity : vec_capacity l.fn.out ≤ vec_capacity l.out;
  fits : AllByRecursion FitsBlock (drop l.block-index l.blocks) → AllByRecursion FitsBlock l.blocks;
}
