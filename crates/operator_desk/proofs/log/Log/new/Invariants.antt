use Rattle.std.proofs.Common.{◌≡◌, vec_len, vec_capacity}
use Rattle.desk_edit.specs.Calls.{call_limit}
use Rattle.operator_desk.proofs.log.Log.new.Given as goal

abbrev pub invariant-loop : goal.invariant-loop
invariant-loop l = (vec_len l.cells ≡ l.counter) × (vec_capacity l.cells ≡ call_limit)
