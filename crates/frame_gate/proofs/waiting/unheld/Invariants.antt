use Rattle.std.proofs.Common.{◌≡◌, ◌≤◌, ◌+◌, ◌-◌, ◌++◌, map, length}
use Rattle.std.specs.Prelude.{filter}
use Rattle.frame_gate.specs.Packets.{ext_of}
use Rattle.frame_gate.proofs.MissingNumbers.{between}
use Rattle.frame_gate.proofs.Missed.{lacks}
use Rattle.frame_gate.proofs.waiting.unheld.Given as goal

abbrev pub invariant-loop-number : goal.invariant-loop-number
invariant-loop-number g l = record {
  items : l.out.items ++ map ext_of (filter (lacks l.cells) (between l.number l.to))
      ≡ map ext_of (filter (lacks l.cells) (between l.from l.to));
  few : length l.out.items + (l.to - l.number) ≤ l.to - l.from;
}
