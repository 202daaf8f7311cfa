use Rattle.std.proofs.Common.{arith}
use Rattle.rtcp_codec.specs.Nack.{word_octets, FitsWord}
use Rattle.rtcp_codec.proofs.Lists.{AllByRecursion-push, text_more}
use Rattle.rtcp_codec.proofs.bodies.words_from.Goals as goal

pub loop-preserved : goal.loop-preserved
loop-preserved g c =
    let word = c.word_from.result.0 in
    let e = c.in_ok-push.ensures.items in
    record {
      fits = rw e (AllByRecursion-push FitsWord c.loop.words.items word c.loop.invariant.fits c.word_from.ensures.fits);
      parts =
          rw e (text_more word_octets c.args.octets.now c.loop.words.items word c.loop.rest.now _ c.loop.invariant.parts
          c.word_from.ensures.parts);
      enough = omega arith;
    }
