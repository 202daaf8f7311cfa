use Rattle.std.proofs.Common.{◌∷◌, ◌++◌, ℕ, List, ap, subst, inl, inr}
use Rattle.rtp_codec.specs.declared.address.Address.{Address}
use Rattle.event_loop.specs.declared.state.ReadTurn.{ReadTurn}
use Rattle.event_loop.specs.Turns.{Turn}
use Rattle.event_loop.specs.Shapes.{AsksFirst}
use Rattle.event_loop.specs.inner.Reading.{IsTakenBy}
use Rattle.event_loop.proofs.TurnLemmas.{done_both}
use Rattle.event_loop.proofs.StepLemmas.{err_if_ok, on_ok}
use Rattle.event_loop.proofs.rounds.Rounds.take_datagram.Goals as goal

pub returns-in-Nothing : goal.returns-in-Nothing
returns-in-Nothing g c =
    let t = c.in_ok-take_next.ensures.done in
    (t.0, t.1, subst (λ (k : ReadTurn). IsTakenBy c.args.rows.now k t.0) c.in-Nothing.is t.2)

pub returns-in-Other : goal.returns-in-Other
returns-in-Other g c =
    let t = c.in_ok-take_next.ensures.done in (
      t.0,
      t.1,
      inr (subst (λ (k : ReadTurn). IsTakenBy c.args.rows.now k t.0) c.in-Other.is t.2),
    )

pub returns-in_err-ask_first-in-Datagram : goal.returns-in_err-ask_first-in-Datagram
returns-in_err-ask_first-in-Datagram g c =
    let t = c.in_ok-take_next.ensures.done in
    let e = c.ask_first.ensures in (
      t.0 ++ e.0,
      done_both t.0 e.0 _ _ _ t.1 e.1,
      err_if_ok _ c.from_residual-in_err-ask_first-in-Datagram.result
          c.from_residual-in_err-ask_first-in-Datagram.ensures.0,
    )

pub returns-in_ok-ask_first-in-Datagram : goal.returns-in_ok-ask_first-in-Datagram
returns-in_ok-ask_first-in-Datagram g c =
    let t = c.in_ok-take_next.ensures.done in
    let k = subst (λ (k : ReadTurn). IsTakenBy c.args.rows.now k t.0) c.in-Datagram.is t.2 in
    let e = c.ask_first.ensures in (
      t.0 ++ e.0,
      done_both t.0 e.0 _ _ _ t.1 e.1,
      inl (record {
        late = k.0;
        arrival = k.1;
        outcome = c.in-Datagram.received.outcome;
        ended = c.in-Datagram.ended;
        asked = e.0;
        rows = k.2;
        first =
            subst (λ (a : Address). AsksFirst a (k.1).moment c.in-Datagram.ended e.0) k.3
            (subst (λ (m : ℕ). AsksFirst c.in-Datagram.received.from m c.in-Datagram.ended e.0) k.4
            (on_ok c.ask_first.result (tt {0}) c.in_ok-ask_first-in-Datagram.was e.2));
        are = ap (λ (l : List Turn). l ++ e.0) k.5;
      }),
    )
