use Rattle.std.proofs.Common.{subst, refl}
use Rattle.mixer.specs.Hearing.{renew}
use Rattle.mixer.specs.Mixers.{MixerOf, IsGiven}
use Rattle.mixer.proofs.Givens.{given_between}
use Rattle.mixer.proofs.mixer.Mixer.renew.Goals as goal

pub returns : goal.returns
returns g c =
    subst
    (λ (old : MixerOf).
    IsGiven old (record { playouts = c.renew.new.self; streams = c.self.inside.streams.entries }) renew)
    c.self.view_is
    (given_between (record { playouts = c.self.inside.playouts; streams = c.self.inside.streams.entries })
    c.renew.new.self renew (λ ssrc before. refl) c.renew.ensures)
