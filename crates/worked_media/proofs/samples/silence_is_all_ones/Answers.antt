use Rattle.std.proofs.Common.{sym, arith}
use Rattle.std.proofs.lemmas.Int.{ints}
use Rattle.worked_media.proofs.samples.silence_is_all_ones.Goals as goal

pub returns : goal.returns
returns c =
    sym (c.encode_sample.ensures.one 255 (record {
      octet = omega arith;
      low = omega arith;
      high = omega arith;
      sign = ((λ h. omega (arith, ints, h)), (λ h. omega (arith, ints, h)));
    }))
