use Rattle.std.proofs.Common.{rules, [], refl}
use Rattle.rtcp_codec.specs.Nack.{numbers_of}
use Rattle.worked_codecs.proofs.nacking.no_numbers.Goals as goal

pub returns-clause-same : goal.returns-clause-same
unfolding numbers_of
returns-clause-same c =
    c.nack_words.ensures.only ([]) (record { names = refl; packed = search rules; fits = search rules })
