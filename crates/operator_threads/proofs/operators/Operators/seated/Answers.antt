use Rattle.operator_connection.proofs.SittingLemmas.{waited_none, waited_both, had_waits}
use Rattle.operator_threads.proofs.operators.Operators.seated.Goals as goal

pub loop-init : goal.loop-init
loop-init g c = waited_none _

pub loop-preserved : goal.loop-preserved
loop-preserved g c = waited_both _ _ _ c.loop.invariant (had_waits _ _ c.greet.ensures)

pub returns-in-Over : goal.returns-in-Over
returns-in-Over g c = waited_both _ _ _ c.loop.invariant (had_waits _ _ c.greet.ensures)

pub returns-in-Seated : goal.returns-in-Seated
returns-in-Seated g c = waited_both _ _ _ c.loop.invariant (had_waits _ _ c.greet.ensures)
