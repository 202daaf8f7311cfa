use Rattle.std.proofs.Common.{◌++◌, ◌∷◌, [], arith}
use Rattle.event_loop.specs.Shapes.{IsPassed}
use Rattle.event_loop.proofs.TurnLemmas.{done_both}
use Rattle.event_loop.proofs.StepLemmas.{err_on_ok, turns_of, read_one, done_more, read_dry, read_full}
use Rattle.event_loop.proofs.rounds.Rounds.drop_datagrams.Goals as goal

pub returns-in_err-has_more : goal.returns-in_err-has_more
returns-in_err-has_more g c =
    let k = c.loop.invariant in
    let t = c.drop_datagram.ensures in (
      turns_of k.done.0 ++ t.0,
      done_both (turns_of k.done.0) t.0 _ _ _ k.done.1 t.1,
      err_on_ok _ c.from_residual.result c.from_residual.ensures.0,
    )

pub returns-then-not-has_more : goal.returns-then-not-has_more
returns-then-not-has_more g c =
    let k = c.loop.invariant in
    let t = c.in_ok-has_more.ensures in (
      turns_of k.done.0 ++ t.0,
      done_both (turns_of k.done.0) t.0 _ _ _ k.done.1 t.1,
      read_dry IsPassed k.done.0 t.0 c.in_ok-has_more.has_more c.loop.counter k.done.2 k.done.3 k.few t.2
          c.if-not-has_more.true,
    )

pub loop-preserved : goal.loop-preserved
loop-preserved g c =
    let k = c.loop.invariant in
    let t = c.in_ok-has_more.ensures in
    let one =
    read_one IsPassed k.done.0 t.0 c.in_ok-has_more.has_more c.loop.counter k.done.2 k.done.3 t.2
    c.if-not-has_more.false in
    record {
      done = (k.done.0 ++ t.0 ∷ [], done_more k.done.0 t.0 _ _ _ k.done.1 t.1, one.0, one.1);
      few = omega (arith, c.loop-test.true);
    }

pub returns : goal.returns
returns g c =
    let k = c.loop.invariant in (
      turns_of k.done.0,
      k.done.1,
      read_full IsPassed k.done.0 k.done.2 (omega (arith, k.done.3, k.few, c.loop-test.false)),
    )
