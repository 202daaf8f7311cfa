use Rattle.std.proofs.Common.{◌≡◌, ◌≤◌, ◌+◌, ◌-◌, ◌++◌, map, length}
use Rattle.std.specs.Prelude.{filter}
use Rattle.frame_gate.specs.Packets.{ext_of}
use Rattle.frame_gate.proofs.MissingNumbers.{between}
use Rattle.frame_gate.proofs.Missed.{again}
use Rattle.frame_gate.proofs.aging.asked_again.Given as goal

abbrev pub invariant-loop-number : goal.invariant-loop-number
invariant-loop-number g l = record {
  items : l.out.items ++ map ext_of (filter (again l.cells l.marks) (between l.number l.to))
      ≡ map ext_of (filter (again l.cells l.marks) (between l.from l.to));
  few : length l.out.items + (l.to - l.number) ≤ l.to - l.from;
}
