use Rattle.std.proofs.Common.{◌∷◌, [], ◌++◌, List, Some, refl, sym, subst, append_assoc}
use Rattle.event_loop.specs.Turns.{Turn, looked}
use Rattle.event_loop.specs.Shapes.{AreRounds}
use Rattle.event_loop.proofs.TurnLemmas.{done_both}
use Rattle.event_loop.proofs.StepLemmas.{on_ok, rounds_more}
use Rattle.event_loop.proofs.LaneLemmas.{lanes_by_all, asker_by_all}
use Rattle.event_loop.proofs.rounds.Rounds.end_round.Goals as goal

pub returns-in-Ok-clause-run : goal.returns-in-Ok-clause-run
returns-in-Ok-clause-run g c start k =
    let a = c.args.self.now in
    let old = Some c.args.begun.reader in
    let new = Some c.round-reader.result.0 in
    let r = c.round-reader.ensures in
    let one = on_ok c.round-reader.result.1 _ c.in-Ok.is r.2 in
    let slept : List Turn = looked k.1 ∷ [] in (
      (k.0 ++ slept) ++ r.0,
      done_both (k.0 ++ slept) r.0 start.history a.state c.round-reader.new.self.state k.2 r.1,
      subst (λ (l : List Turn). AreRounds start.reader new l) (sym (append_assoc k.0 slept r.0))
          (rounds_more start.reader old new k.0 slept r.0 k.1 c.args.notice k.3 refl one),
    )

pub returns-in-Err-clause-run : goal.returns-in-Err-clause-run
returns-in-Err-clause-run g c start k =
    let a = c.args.self.now in
    let r = c.round-reader.ensures in
    let slept : List Turn = looked k.1 ∷ [] in (
      (k.0 ++ slept) ++ r.0,
      done_both (k.0 ++ slept) r.0 start.history a.state c.round-reader.new.self.state k.2 r.1,
      (k.0, slept ++ r.0, Some c.args.begun.reader, append_assoc k.0 slept r.0, k.3),
    )

pub returns-in-Ok-clause-lanes : goal.returns-in-Ok-clause-lanes
returns-in-Ok-clause-lanes g c = let d = c.round-reader.ensures in lanes_by_all d.0 _ _ d.1

pub returns-in-Err-clause-lanes : goal.returns-in-Err-clause-lanes
returns-in-Err-clause-lanes g c = let d = c.round-reader.ensures in lanes_by_all d.0 _ _ d.1

pub returns-in-Ok-clause-asker : goal.returns-in-Ok-clause-asker
returns-in-Ok-clause-asker g c = let d = c.round-reader.ensures in asker_by_all d.0 _ _ d.1

pub returns-in-Err-clause-asker : goal.returns-in-Err-clause-asker
returns-in-Err-clause-asker g c = let d = c.round-reader.ensures in asker_by_all d.0 _ _ d.1
