use Rattle.std.proofs.Common.{◌+◌, ◌<◌, ◌≤◌, None, arith}
use Rattle.frame_gate.specs.inner.Cells.{held}
use Rattle.frame_gate.specs.Epochs.{resynced}
use Rattle.frame_gate.proofs.Cuts.{underway_done, underway_more}
use Rattle.frame_gate.proofs.resync.resync.Goals as goal

pub loop-walk-preserved : goal.loop-walk-preserved
loop-walk-preserved g c =
    let walk = c.loop-walk.walk in
    let new = c.in_ok-walk.walk in
    let n = c.args.number in
    let old = c.loop-walk.invariant.next in
    let next = c.in_ok-walk.ensures.next in
    let far : walk.next + 256 ≤ n = omega (arith, c.loop-walk-test.true, old.2) in
    record {
      next = (omega (arith, old.0, next.0), next.1, omega (arith, next.1, next.2));
      underway = λ given e most h lt.
          underway_more (held c.args.cells.now None) given (resynced most e n) n walk new c.loop-walk.frames.items
          c.cut.new.frames.items
          (c.loop-walk.invariant.underway given e most h lt) far next.0 (c.in_ok-walk.ensures.tied given);
    }

pub returns-clause-tied : goal.returns-clause-tied
returns-clause-tied g c = λ given e most h lt.
    let n = c.args.number in
    let walk = c.loop-walk.walk in
    let near : n < walk.next + 256 = omega (arith, c.loop-walk-test.false, c.loop-walk.invariant.next.2) in
    underway_done (held c.args.cells.now None) given (resynced most e n) n walk c.loop-walk.frames.items
    (c.loop-walk.invariant.underway given e most h lt) near
