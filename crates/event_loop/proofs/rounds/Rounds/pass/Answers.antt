use Rattle.std.proofs.Common.{◌++◌}
use Rattle.event_loop.proofs.TurnLemmas.{done_both}
use Rattle.event_loop.proofs.StepLemmas.{on_ok_map, passing}
use Rattle.event_loop.proofs.rounds.Rounds.pass.Goals as goal

pub returns : goal.returns
returns g c =
    let d = c.in_ok-drop_datagrams.ensures in
    let t = c.tick.ensures in (
      d.0 ++ t.0,
      done_both d.0 t.0 _ _ _ d.1 t.1,
      on_ok_map c.tick.result (λ k. passing d.0 t.0 d.2 k.0 k.1 k.2) t.2,
    )
