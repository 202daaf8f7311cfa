use Rattle.std.proofs.Common.{◌∷◌, [], refl}
use Rattle.event_loop.specs.Turns.{looked, gave_ticks}
use Rattle.event_loop.proofs.rounds.Rounds.tick.Goals as goal

pub returns : goal.returns
returns g c =
    let now = c.in_ok-now.now in
    let due = c.tick.result in (
      looked now ∷ gave_ticks due now ∷ [],
      (c.look.new.self, c.in_ok-now.ensures.ok, (c.tick.new.self, c.tick.ensures, refl)),
      (now, due, refl),
    )
