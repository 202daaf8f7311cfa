-- Each loss so far fits.
use Rattle.std.proofs.Common.{drop}
use Rattle.std.specs.List.{AllByRecursion}
use Rattle.rtcp_codec.specs.Report.{FitsLost}
use Rattle.rtcp_codec.proofs.checking.has_losses.Given as goal

abbrev pub invariant-loop-block : goal.invariant-loop-block
invariant-loop-block l = record {
  good : AllByRecursion (λ b. FitsLost b.lost) (drop l.block-index l.blocks)
      → AllByRecursion (λ b. FitsLost b.lost) l.blocks;
  back : AllByRecursion (λ b. FitsLost b.lost) l.blocks
      → AllByRecursion (λ b. FitsLost b.lost) (drop l.block-index l.blocks);
}
