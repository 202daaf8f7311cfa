use Rattle.std.proofs.Common.{◌≡◌, [], length, vec_len, All, vec_capacity}
use Rattle.bridge_server.proofs.sinks.sinks_for.Given as goal

abbrev pub invariant-loop-shown : goal.invariant-loop-shown
invariant-loop-shown l = record {
  many : vec_len l.sinks ≡ l.shown-index;
  capacity : vec_capacity l.sinks ≡ vec_capacity l.initial.sinks;
  untaken : All (λ sink. sink.taken ≡ []) l.sinks.items;
}
