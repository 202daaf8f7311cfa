use Rattle.std.proofs.Common.{◌≡◌, ◌∙◌, ◌++◌, List, Option, Some, None, refl, ap, sym, subst}
use Rattle.published_desk.specs.Published.{ReaderOf}
use Rattle.event_loop.specs.Turns.{Turn, HaveDone}
use Rattle.event_loop.specs.Shapes.{AreRounds}
use Rattle.event_loop.proofs.TurnLemmas.{done_both}
use Rattle.event_loop.proofs.StepLemmas.{begin_all, err_match}
use Rattle.event_loop.proofs.LaneLemmas.{lanes_by_all, asker_by_all}
use Rattle.event_loop.proofs.rounds.Rounds.begin_round.Goals as goal

pub returns-in_default-clause-run : goal.returns-in_default-clause-run
returns-in_default-clause-run g c start k = (k.0, k.1, begin_all start.reader c.args.self.now.reader k.0 k.2)

pub returns-in_err-may_wait-clause-run : goal.returns-in_err-may_wait-clause-run
returns-in_err-may_wait-clause-run g c start k =
    let a = c.args.self.now in
    let w = c.wait.ensures in
    err_match _ c.from_residual.result c.from_residual.ensures.0 (
      k.0 ++ w.0,
      done_both k.0 w.0 start.history a.state c.wait.new.self k.1 w.1,
      (k.0, w.0, a.reader, refl, k.2),
    )

pub returns-clause-run : goal.returns-clause-run
returns-clause-run g c start k =
    let a = c.args.self.now in
    let w = c.in_ok-may_wait.ensures in (
      k.0,
      w.2.0,
      subst (λ (l : List Turn). HaveDone (k.0 ++ l) start.history c.wait.new.self) w.2.1
          (done_both k.0 w.0 start.history a.state c.wait.new.self k.1 w.1),
      subst (λ (r : Option ReaderOf). AreRounds start.reader r k.0) (sym c.take.ensures.value ∙ c.in-Some.is) k.2,
    )

pub returns-in_err-may_wait-clause-lanes : goal.returns-in_err-may_wait-clause-lanes
returns-in_err-may_wait-clause-lanes g c = let d = c.wait.ensures in lanes_by_all d.0 _ _ d.1

pub returns-clause-lanes : goal.returns-clause-lanes
returns-clause-lanes g c = let d = c.wait.ensures in lanes_by_all d.0 _ _ d.1

pub returns-in_err-may_wait-clause-asker : goal.returns-in_err-may_wait-clause-asker
returns-in_err-may_wait-clause-asker g c = let d = c.wait.ensures in asker_by_all d.0 _ _ d.1

pub returns-clause-asker : goal.returns-clause-asker
returns-clause-asker g c = let d = c.wait.ensures in asker_by_all d.0 _ _ d.1
