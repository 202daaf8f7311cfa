use Rattle.std.proofs.Common.{◌≡◌, take}
use Rattle.operator_desk.proofs.past.calls_again.Given as goal

-- the calls so far
abbrev pub invariant-loop-made : goal.invariant-loop-made
invariant-loop-made l = l.again.items ≡ take l.made-index l.calls
