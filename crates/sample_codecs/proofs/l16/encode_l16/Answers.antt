use Rattle.std.proofs.Common.{rules, arith, ◌+◌, ◌*◌, ◌<◌, ℤ, pos, slice_index_or, length, refl, of_z, FitsSigned}
use mir.Syntax.{w16}
use Rattle.sample_codecs.proofs.Pairs.{back_more, encoded_more, written}
use Rattle.sample_codecs.proofs.l16.encode_l16.Goals as goal

pub loop-i-preserved : goal.loop-i-preserved
loop-i-preserved c =
    let samples = c.args.samples.now in
    let i = c.loop-i.i in
    let z : ℤ = slice_index_or samples i (pos 0) in
    let fits : FitsSigned w16 z = search rules in
    let few : of_z w16 z < 65536 = search rules in
    let there : 2 * i + 1 < length c.loop-i.octets = omega (arith, c.loop-i-test.true, c.loop-i.invariant.0) in (
      search rules,
      encoded_more samples c.loop-i.octets c.to_be_bytes.result i z c.loop-i-test.true there refl
          (written z c.to_be_bytes.result fits few c.to_be_bytes.ensures) c.loop-i.invariant.1,
      back_more samples i c.loop-i-test.true fits c.loop-i.invariant.2,
    )
