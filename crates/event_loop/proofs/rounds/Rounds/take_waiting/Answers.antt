use Rattle.std.proofs.Common.{◌++◌, ◌∷◌, List, refl, sym, subst}
use Rattle.event_loop.specs.Turns.{Turn, History, HaveDone, entered_desk, looked}
use Rattle.event_loop.proofs.TurnLemmas.{done_both}
use Rattle.event_loop.proofs.StepLemmas.{err_on_ok, on_ok_map}
use Rattle.event_loop.proofs.rounds.Rounds.take_waiting.Goals as goal

pub returns-in_err-take_datagrams : goal.returns-in_err-take_datagrams
returns-in_err-take_datagrams g c =
    let d = c.take_datagrams.ensures in (
      entered_desk c.args.rows.now ∷ d.0,
      (c.enter.new.self, c.enter.ensures, d.1),
      err_on_ok _ c.from_residual.result c.from_residual.ensures.0,
    )

pub returns-in_err-now : goal.returns-in_err-now
returns-in_err-now g c =
    let d = c.in_ok-take_datagrams.ensures in
    let turns : List Turn = entered_desk c.args.rows.now ∷ d.0 in (
      turns,
      subst (λ (h : History g.row.P.Denot g.row.S.Denot). HaveDone turns c.args.self.now.state h)
          (sym c.in_err-now.ensures.err) (c.enter.new.self, c.enter.ensures, d.1),
      err_on_ok _ c.from_residual-in_err-now.result c.from_residual-in_err-now.ensures.0,
    )

pub returns : goal.returns
returns g c =
    let d = c.in_ok-take_datagrams.ensures in
    let u = c.take_due.ensures in
    let now = c.in_ok-now.now in (
      entered_desk c.args.rows.now ∷ (d.0 ++ looked now ∷ u.0),
      (
        c.enter.new.self,
        c.enter.ensures,
        done_both d.0 (looked now ∷ u.0) _ _ _ d.1 (c.look.new.self, c.in_ok-now.ensures.ok, u.1),
      ),
      on_ok_map c.take_due.result
          (λ k. record { reads = d.0; read = d.2; moment = now; rest = u.0; due = k; are = refl }) u.2,
    )
