use Rattle.std.proofs.Common.{[], ◌∷◌, refl}
use Rattle.event_loop.specs.Kept.{asked_origin}
use Rattle.event_loop.specs.Turns.{Turn, asked_picture}
use Rattle.event_loop.proofs.TurnLemmas.{done_one}
use Rattle.event_loop.proofs.rounds.Rounds.ask_picture.Goals as goal

pub returns : goal.returns
returns g c =
    let sent = c.in_ok-sent.sent in
    let turn : Turn = asked_picture (asked_origin c.args.source.now) c.args.now sent in (
      turn ∷ [],
      done_one turn c.args.self.now.state c.ask_picture.new.self c.in_ok-sent.ensures.ok,
      (sent, refl),
    )
