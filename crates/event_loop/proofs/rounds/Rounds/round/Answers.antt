use Rattle.std.proofs.Common.{◌∷◌, ◌++◌, Some}
use Rattle.event_loop.specs.Turns.{owed}
use Rattle.event_loop.proofs.TurnLemmas.{done_both}
use Rattle.event_loop.proofs.StepLemmas.{on_ok, on_ok_map, round_of}
use Rattle.event_loop.proofs.rounds.Rounds.round.Goals as goal

pub returns-in-Ok : goal.returns-in-Ok
returns-in-Ok g c =
    let e = c.take_by_entry-reader.ensures in
    let w = c.wake-woken.ensures in
    let entered = on_ok c.take_by_entry-reader.result.1 _ c.in-Ok.is e.2 in (
      owed c.args.notice ∷ (e.0 ++ w.0),
      (c.owe.new.self, c.owe.ensures, done_both e.0 w.0 _ _ _ e.1 w.1),
      on_ok_map c.wake-woken.result
          (λ k.
          round_of c.args.notice (Some c.args.reader) (Some c.take_by_entry-reader.result.0) e.0 w.0 entered k.0 k.1
          k.2)
          w.2,
    )

pub returns-in-Err : goal.returns-in-Err
returns-in-Err g c =
    let e = c.take_by_entry-reader.ensures in
    let w = c.wake-woken.ensures in (
      owed c.args.notice ∷ (e.0 ++ w.0),
      (c.owe.new.self, c.owe.ensures, done_both e.0 w.0 _ _ _ e.1 w.1),
      tt,
    )
