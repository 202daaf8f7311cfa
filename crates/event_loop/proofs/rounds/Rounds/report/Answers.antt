use Rattle.std.proofs.Common.{◌∷◌, [], refl}
use Rattle.event_loop.specs.Turns.{made_report}
use Rattle.event_loop.proofs.TurnLemmas.{done_one}
use Rattle.event_loop.proofs.rounds.Rounds.report.Goals as goal

pub returns : goal.returns
returns g c =
    let due = c.in_ok-due.due in
    let turn = made_report due c.args.rows.now c.args.now in
    (turn ∷ [], done_one turn _ _ c.in_ok-due.ensures.ok, (due, refl))
