use Rattle.std.proofs.Common.{sym, arith}
use Rattle.std.proofs.lemmas.Int.{ints}
use Rattle.worked_media.proofs.samples.eight_is_one_step_up.Goals as goal

pub returns : goal.returns
returns c =
    sym (c.encode_sample.ensures.one 254 (record {
      octet = omega arith;
      low = omega arith;
      high = omega arith;
      sign = ((λ h. omega (arith, ints, h)), (λ h. omega (arith, ints, h)));
    }))
