use Rattle.std.proofs.Common.{◌≡◌, take, vec_len, vec_capacity}
use Rattle.operator_desk.specs.inner.Tokens.{marks, shown}
use Rattle.operator_desk.proofs.tokens.catch_up.Given as goal

abbrev pub invariant-loop-k : goal.invariant-loop-k
invariant-loop-k l = record {
  marks : marks l.seen.items ≡ take l.k (marks l.entries.items);
  shown : shown l.seen.items ≡ take l.k (shown l.entries.items);
  length : vec_len l.seen ≡ l.k;
  capacity : vec_capacity l.seen ≡ vec_capacity l.fn.seen;
}
