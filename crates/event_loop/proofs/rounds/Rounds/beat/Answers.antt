use Rattle.std.proofs.Common.{◌∷◌, [], Bool, List, refl, ap, sym, ◌∙◌}
use Rattle.event_loop.specs.Turns.{Turn, gave_ticks}
use Rattle.event_loop.specs.Shapes.{waits}
use Rattle.event_loop.proofs.StepLemmas.{on_ok_map}
use Rattle.event_loop.proofs.rounds.Rounds.beat.Goals as goal

pub returns-then-tick : goal.returns-then-tick
returns-then-tick g c =
    let now = c.args.now in
    let due = c.tick.result in
    let w = c.wait_all.ensures in (
      gave_ticks due now ∷ w.0,
      (c.tick.new.self, c.tick.ensures, w.1),
      on_ok_map c.wait_all.result
          (λ is. (
            due,
            ap (λ (l : List Turn). gave_ticks due now ∷ l)
                (is ∙ ap (λ (k : Bool). waits k c.args.rows.now now) (sym c.if-tick.true)),
          ))
          w.2,
    )

pub returns : goal.returns
returns g c =
    let now = c.args.now in
    let due = c.tick.result in (
      gave_ticks due now ∷ [],
      (c.tick.new.self, c.tick.ensures, refl),
      (due, ap (λ (k : Bool). gave_ticks due now ∷ waits k c.args.rows.now now) (sym c.if-tick.false)),
    )
