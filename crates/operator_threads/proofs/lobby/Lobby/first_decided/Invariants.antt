use Rattle.std.proofs.Common.{◌≡◌}
use Rattle.operator_threads.proofs.lobby.Lobby.first_decided.Given as goal

-- as many connections wait as before
abbrev pub invariant-loop-at : goal.invariant-loop-at
invariant-loop-at l = l.self ≡ l.fn.self
