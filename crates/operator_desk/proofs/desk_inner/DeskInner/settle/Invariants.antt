use Rattle.std.proofs.Common.{◌≡◌, ◌≤◌, ◌++◌, length}
use Rattle.std.specs.List.{All, sum_by}
use mathlib.Core.List.{IsPrefix}
use Rattle.operator_desk.specs.Seats.{SeatOf}
use Rattle.operator_desk.proofs.desk_inner.DeskInner.settle.Given as goal

abbrev pub invariant-loop-seat : goal.invariant-loop-seat
invariant-loop-seat g l = record {
  all : l.yielded ++ l.seat-iterator.rest.items ≡ l.fn.seats.items;
  parts : l.rest.parts ≡ length l.yielded;
  apart : l.rest.parts ≤ g.H.Ledger.parts;
  amount : l.rest.amount ≡ sum_by (λ (s : SeatOf). s.count) l.yielded;
  begins : All (λ (s : SeatOf). IsPrefix s.seen l.fn.self.log) l.yielded;
  few : All (λ (s : SeatOf). length s.seen ≤ length l.fn.self.log) l.seat-iterator.rest.items;
}
