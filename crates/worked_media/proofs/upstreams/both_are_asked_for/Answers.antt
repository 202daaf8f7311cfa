use Rattle.std.proofs.Common.{rules, ℕ, [], ◌∷◌, refl}
use Rattle.rtcp_codec.specs.declared.nack.NackWord.{NackWord}
use Rattle.rtcp_codec.specs.Nack.{numbers_of}
use Rattle.worked_media.proofs.upstreams.both_are_asked_for.Goals as goal

abbrev word : ℕ → ℕ → NackWord
word pid blp = record { pid = pid; blp = blp }

pub returns : goal.returns
unfolding numbers_of
returns c =
    c.upstream.ensures.packed (word 65535 1 ∷ []) (record { names = refl; packed = search rules; fits = search rules })
