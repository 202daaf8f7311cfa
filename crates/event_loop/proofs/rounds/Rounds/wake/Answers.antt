use Rattle.std.proofs.Common.{◌∷◌, [], Bool, refl, ap, sym}
use Rattle.event_loop.specs.Turns.{looked, judged_wake, signalled}
use Rattle.event_loop.specs.Shapes.{signals}
use Rattle.event_loop.proofs.rounds.Rounds.wake.Goals as goal

pub returns-then-judge : goal.returns-then-judge
returns-then-judge g c =
    let now = c.in_ok-now.now in
    let raised = c.judge.result in (
      looked now ∷ judged_wake now raised ∷ signalled ∷ [],
      (
        c.look.new.self,
        c.in_ok-now.ensures.ok,
        (c.judge.new.self, c.judge.ensures, (c.signal.new.self, c.signal.ensures, refl)),
      ),
      (now, raised, ap (λ (b : Bool). looked now ∷ judged_wake now raised ∷ signals b) (sym c.if-judge.true)),
    )

pub returns-else-judge : goal.returns-else-judge
returns-else-judge g c =
    let now = c.in_ok-now.now in
    let raised = c.judge.result in (
      looked now ∷ judged_wake now raised ∷ [],
      (c.look.new.self, c.in_ok-now.ensures.ok, (c.judge.new.self, c.judge.ensures, refl)),
      (now, raised, ap (λ (b : Bool). looked now ∷ judged_wake now raised ∷ signals b) (sym c.if-judge.false)),
    )
