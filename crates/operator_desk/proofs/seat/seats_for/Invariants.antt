use Rattle.std.proofs.Common.{◌≡◌, ◌+◌, vec_len, vec_capacity}
use Rattle.operator_desk.specs.Seats.{new_seats}
use Rattle.operator_desk.proofs.seat.seats_for.Given as goal

abbrev pub invariant-loop-op : goal.invariant-loop-op
invariant-loop-op g l = record {
  seats : l.seats.items ≡ new_seats l.op;
  length : vec_len l.seats ≡ l.op;
  capacity : vec_capacity l.seats ≡ l.operators;
  parts : l.all.parts + l.op ≡ l.operators;
  amount : l.all.amount ≡ 0;
}
