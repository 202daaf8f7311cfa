use Rattle.std.proofs.Common.{subst, refl}
use Rattle.std.proofs.lemmas.Result.{on_ok_weaker}
use Rattle.mixer.specs.Hearing.{put}
use Rattle.mixer.specs.Mixers.{MixerOf, IsGiven}
use Rattle.mixer.proofs.Givens.{given_between}
use Rattle.mixer.proofs.mixer.Mixer.put.Goals as goal

pub returns-clause-given : goal.returns-clause-given
returns-clause-given g c =
    let next = put c.args.source c.args.address.now c.args.block.rate c.args.block.ts c.args.block.samples.now in
    on_ok_weaker c.put.result (λ also.
    subst
    (λ (old : MixerOf).
    IsGiven old (record { playouts = c.put.new.self; streams = c.self.inside.streams.entries }) next)
    c.self.view_is
    (given_between (record { playouts = c.self.inside.playouts; streams = c.self.inside.streams.entries })
    c.put.new.self next (λ ssrc before. refl) also))
    c.put.ensures.has
