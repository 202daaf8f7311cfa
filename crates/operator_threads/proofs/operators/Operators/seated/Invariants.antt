use Rattle.operator_connection.specs.Talks.{HasWaitedFor}
use Rattle.operator_threads.proofs.operators.Operators.seated.Given as goal

-- there were rounds so far, and nothing else
abbrev pub invariant-loop : goal.invariant-loop
invariant-loop g l =
    HasWaitedFor l.fn.caller.connection l.caller.connection
