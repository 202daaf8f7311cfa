use Rattle.std.proofs.Common.{rules, [], refl}
use Rattle.rtcp_codec.specs.Nack.{numbers_of}
use Rattle.worked_media.proofs.upstreams.a_picture_is_asked_for.Goals as goal

pub returns : goal.returns
unfolding numbers_of
returns c = c.upstream.ensures.packed [] (record { names = refl; packed = search rules; fits = search rules })
