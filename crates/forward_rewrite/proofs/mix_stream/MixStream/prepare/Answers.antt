use Rattle.std.proofs.lemmas.Result.{IfOk-weaker}
use Rattle.forward_rewrite.specs.Mixes.{sound_of}
use Rattle.forward_rewrite.proofs.Mixing.{gives_sound}
use Rattle.forward_rewrite.proofs.mix_stream.MixStream.prepare.Goals as goal

pub returns-clause-gives : goal.returns-clause-gives
returns-clause-gives g c =
    IfOk-weaker c.prepare_by_fields.result _ _
    (λ p h.
    gives_sound c.args.self.now p.next (sound_of c.args.format c.args.csrcs.now c.args.samples.now) c.args.moment
    p.packet h.packet h.next)
    c.prepare_by_fields.ensures
