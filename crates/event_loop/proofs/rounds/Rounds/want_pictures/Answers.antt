use Rattle.std.proofs.Common.{[], ◌∷◌, refl, sym}
use Rattle.event_loop.specs.Turns.{Turn, saw_desk}
use Rattle.event_loop.proofs.StepLemmas.{err_on_ok, on_ok_map}
use Rattle.event_loop.proofs.rounds.Rounds.want_pictures.Goals as goal

pub returns-in_err-see_desk : goal.returns-in_err-see_desk
returns-in_err-see_desk g c = (
  [],
  sym c.in_err-see_desk.ensures.err,
  err_on_ok _ c.from_residual.result c.from_residual.ensures.0,
)

pub returns : goal.returns
returns g c =
    let later = c.in_ok-see_desk.field-0 in
    let turn : Turn = saw_desk later c.args.version c.args.rows.now c.args.now in
    let e = c.ask_pictures.ensures in (
      turn ∷ e.0,
      (c.see_desk.new.self, c.in_ok-see_desk.ensures.ok, e.1),
      on_ok_map c.ask_pictures.result (λ k. record { later = later; rest = e.0; asked = k; are = refl }) e.2,
    )
