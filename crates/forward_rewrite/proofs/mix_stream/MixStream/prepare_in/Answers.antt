use Rattle.std.proofs.lemmas.Result.{IfOk-weaker}
use Rattle.forward_rewrite.specs.Mixes.{sound_of}
use Rattle.forward_rewrite.proofs.Mixing.{gives_sound}
use Rattle.forward_rewrite.proofs.mix_stream.MixStream.prepare_in.Goals as goal

pub returns-clause-gives : goal.returns-clause-gives
returns-clause-gives g c =
    IfOk-weaker c.prepare_in_by_fields.result _ _
    (λ p h csrcs samples count octets payload.
    (let is = h csrcs samples count octets payload in
    gives_sound c.args.self.now p.next (sound_of c.args.format csrcs samples) c.args.moment p.packet is.packet is.next))
    c.prepare_in_by_fields.ensures.packet
