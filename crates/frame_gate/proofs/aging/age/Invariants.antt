use Rattle.std.proofs.Common.{◌≡◌, ◌≤◌, take, count_by, nat_lt}
use Rattle.frame_gate.proofs.aging.age.Given as goal

abbrev pub invariant-loop-i : goal.invariant-loop-i
invariant-loop-i l = record {
  most : l.age ≤ l.i;
  count : l.age ≡ count_by (λ mark. nat_lt l.number mark) (take l.i l.marks);
}
