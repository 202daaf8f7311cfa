use Rattle.std.proofs.Common.{◌≡◌, take, vec_len, vec_capacity}
use Rattle.operator_desk.specs.inner.Tokens.{shown}
use Rattle.operator_desk.proofs.tokens.copied.Given as goal

abbrev pub invariant-loop-k : goal.invariant-loop-k
invariant-loop-k l = record {
  copies : l.copies.items ≡ take l.k (shown l.entries.items);
  length : vec_len l.copies ≡ l.k;
  capacity : vec_capacity l.copies ≡ vec_len l.entries;
}
