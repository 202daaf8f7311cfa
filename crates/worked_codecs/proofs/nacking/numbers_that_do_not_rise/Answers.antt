use Rattle.std.proofs.Common.{rules, [], ◌∷◌, refl}
use Rattle.rtcp_codec.specs.Nack.{numbers_of}
use Rattle.worked_codecs.specs.Packets.{word}
use Rattle.worked_codecs.proofs.nacking.numbers_that_do_not_rise.Goals as goal

pub returns : goal.returns
unfolding numbers_of
returns c =
    c.nack_words.ensures.only (word 7 2 ∷ word 8 0 ∷ word 8 0 ∷ [])
    (record { names = refl; packed = search rules; fits = search rules })
