use Rattle.std.proofs.Common.{◌≡◌, subst}
use Rattle.std.specs.Prelude.{IsOkAnd}
use Rattle.rtp_codec.specs.View.{packet_of}
use Rattle.ingress.proofs.received.header_in.Goals as goal

pub returns-in-Err-clause-none : goal.returns-in-Err-clause-none
returns-in-Err-clause-none c = λ h has.
    subst (λ r. IsOkAnd r (λ v. packet_of v ≡ has.1)) c.in-Err.is (c.read.ensures.only has.1 has.2)
