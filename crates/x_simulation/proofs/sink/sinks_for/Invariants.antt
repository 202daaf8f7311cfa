use Rattle.std.proofs.Common.{◌≡◌, [], All}
use Rattle.x_simulation.proofs.sink.sinks_for.Given as goal

abbrev pub invariant-loop-gate : goal.invariant-loop-gate
invariant-loop-gate g l = All (λ sink. sink.taken ≡ []) l.sinks.items
