use Rattle.std.proofs.Common.{◌++◌, ℕ, List, drop, ◌+◌, get_or, length, pos, sym, ap, ◌∙◌, append_assoc, arith}
use Rattle.std.proofs.Common.{length-append}
use Rattle.std.specs.List.{flat_map}
use Rattle.rtcp_codec.specs.declared.report.ReportBlock.{ReportBlock}
use Rattle.rtcp_codec.specs.Report.{block_octets, FitsBlock, FitsLost}
use Rattle.rtcp_codec.proofs.Lists.{text_at, all_behind, all_from}
use Rattle.rtcp_codec.proofs.writing_reports.append_blocks.Goals as goal

zeros : ReportBlock
zeros = record { ssrc = 0; fraction = 0; lost = pos 0; highest = 0; jitter = 0; lsr = 0; dlsr = 0 }

pub append_block-requires-clause-capacity : goal.append_block-requires-clause-capacity
append_block-requires-clause-capacity g c =
    let blocks = c.args.blocks.now in
    let i = c.loop-block.block-index in
    let one = block_octets (get_or blocks i zeros) in
    let rest = flat_map block_octets (drop (i + 1) blocks) in
    let len = ap length (text_at block_octets blocks i zeros c.loop-block-test.true) ∙ length-append one rest in
    omega (arith, len, c.loop-block.invariant.len, c.requires.capacity)

pub loop-block-preserved : goal.loop-block-preserved
unfolding zeros
loop-block-preserved g c =
    let blocks = c.args.blocks.now in
    let i = c.loop-block.block-index in
    let one = block_octets (get_or blocks i zeros) in
    let rest = flat_map block_octets (drop (i + 1) blocks) in
    let text = text_at block_octets blocks i zeros c.loop-block-test.true in
    let len = ap length text ∙ length-append one rest in
    record {
      items =
          ap (λ (l : List ℕ). l ++ rest) c.append_block.ensures.items
          ∙ append_assoc c.loop-block.out.items one rest
          ∙ ap (λ (l : List ℕ). c.loop-block.out.items ++ l) (sym text)
          ∙ c.loop-block.invariant.items;
      len = omega (arith, len, c.loop-block.invariant.len);
      lost = all_behind (λ b. FitsLost b.lost) blocks i zeros c.loop-block-test.true c.loop-block.invariant.lost;
      capacity = omega arith;
      fits = λ h.
          c.loop-block.invariant.fits
          (all_from FitsBlock blocks i zeros c.loop-block-test.true c.append_block.ensures.fits h);
    }
