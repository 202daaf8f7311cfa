use Rattle.operator_threads.specs.Free.{IsLowest}
use Rattle.operator_threads.proofs.seats.FreeSeats.lowest.Given as goal

-- no operator so far has a free seat
abbrev pub invariant-loop-op : goal.invariant-loop-op
invariant-loop-op g l = IsLowest l.op l.fn.self.seats.items
