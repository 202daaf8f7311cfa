use Rattle.std.proofs.Common.{[], ◌∷◌, arith, length-append}
use Rattle.rtcp_codec.specs.Report.{block_octets}
use Rattle.rtcp_codec.specs.inner.Reading.{IsSoundBlock}
use Rattle.rtcp_codec.proofs.Lists.{AllByRecursion-push, text_more}
use Rattle.rtcp_codec.proofs.reading_reports.blocks_from.Goals as goal

pub loop-preserved : goal.loop-preserved
loop-preserved g c =
    let block = c.block_from.result.0 in
    let e = c.in_ok-push.ensures.items in
    record {
      count = rw e (omega (arith, length-append c.loop.blocks.items (block ∷ [])));
      fits =
          rw e
          (AllByRecursion-push IsSoundBlock c.loop.blocks.items block c.loop.invariant.fits c.block_from.ensures.fits);
      parts =
          rw e
          (text_more block_octets c.args.octets.now c.loop.blocks.items block c.loop.rest.now _ c.loop.invariant.parts
          c.block_from.ensures.parts);
      enough = omega arith;
    }
