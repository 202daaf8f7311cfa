use Rattle.operator_connection.specs.Talks.{HasSat}
use Rattle.operator_threads.proofs.operators.Operators.sit.Given as goal

-- there were rounds so far, and nothing else
abbrev pub invariant-loop : goal.invariant-loop
invariant-loop g l =
    HasSat g.D.LineDesk.replies g.D.LineDesk.shows
    (l.fn.desk, l.fn.caller.connection)
    (l.desk, l.caller.connection)
