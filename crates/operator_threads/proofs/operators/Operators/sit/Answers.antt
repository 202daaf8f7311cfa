use Rattle.operator_connection.proofs.SittingLemmas.{sat_none, sat_step}
use Rattle.operator_threads.proofs.operators.Operators.sit.Goals as goal

pub loop-init : goal.loop-init
loop-init g c = sat_none g.D.LineDesk.replies g.D.LineDesk.shows _

pub loop-preserved : goal.loop-preserved
loop-preserved g c =
    let s = c.serve.ensures.step in
    sat_step g.D.LineDesk.replies g.D.LineDesk.shows c.serve.result _ s.0 _ _ _ c.loop.invariant s.1 s.2

pub returns-then-not-serve : goal.returns-then-not-serve
returns-then-not-serve g c =
    let s = c.serve.ensures.step in
    sat_step g.D.LineDesk.replies g.D.LineDesk.shows c.serve.result _ s.0 _ _ _ c.loop.invariant s.1 s.2
