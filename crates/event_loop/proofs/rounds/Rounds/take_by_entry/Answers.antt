use Rattle.std.proofs.Common.{inr}
use Rattle.event_loop.proofs.StepLemmas.{on_ok_map}
use Rattle.event_loop.proofs.rounds.Rounds.take_by_entry.Goals as goal

pub returns-in-Err : goal.returns-in-Err
returns-in-Err g c =
    let p = c.pass.ensures in
    (p.0, p.1, on_ok_map c.pass.result (λ k. inr (c.in-Err.ensures.back, k)) p.2)
