use Rattle.std.proofs.Common.{rules, arith}
use Rattle.std.proofs.lemmas.Int.{to_z-of_z}
use Rattle.sample_codecs.proofs.Decoding.{table_decoded}
use Rattle.sample_codecs.proofs.samples.decode_sample.Goals as goal

pub returns : goal.returns
returns c =
    let e = table_decoded c.args.code (search rules) in
    grind (arith, to_z-of_z)
