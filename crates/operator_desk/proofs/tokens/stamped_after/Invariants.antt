use Rattle.std.proofs.Common.{◌≡◌, ◌≤◌, take, drop}
use Rattle.operator_desk.specs.PastCalls.{stamped_of}
use Rattle.operator_desk.specs.inner.Tokens.{shown}
use Rattle.operator_desk.proofs.tokens.stamped_after.Given as goal

-- the calls so far
abbrev pub invariant-loop-k : goal.invariant-loop-k
invariant-loop-k l = record {
  calls : l.calls.items ≡ drop l.version (take l.k (stamped_of (shown l.entries.items)));
  since : l.version ≤ l.k;
}
