use Rattle.std.proofs.Common.{◌≡◌, take}
use Rattle.operator_desk.specs.inner.Tokens.{shown}
use Rattle.operator_desk.specs.OwnCalls.{numbers}
use Rattle.operator_desk.proofs.tokens.none_of.Given as goal

abbrev pub invariant-loop-k : goal.invariant-loop-k
invariant-loop-k l =
    numbers l.op (take l.k (shown l.entries.items)) ≡ numbers l.op (take l.from (shown l.entries.items))
