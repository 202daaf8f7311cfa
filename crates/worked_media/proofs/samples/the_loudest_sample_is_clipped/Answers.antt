use Rattle.std.proofs.Common.{sym, arith}
use Rattle.std.proofs.lemmas.Int.{ints}
use Rattle.worked_media.proofs.samples.the_loudest_sample_is_clipped.Goals as goal

pub returns : goal.returns
returns c =
    sym (c.encode_sample.ensures.one 128 (record {
      octet = omega arith;
      low = omega arith;
      high = omega arith;
      sign = ((λ h. omega (arith, ints, h)), (λ h. omega (arith, ints, h)));
    }))
