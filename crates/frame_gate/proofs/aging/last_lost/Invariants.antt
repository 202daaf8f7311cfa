use Rattle.std.proofs.Common.{◌≡◌, ◌<◌, None}
use Rattle.std.specs.Prelude.{filter, fold, IfSome}
use Rattle.frame_gate.proofs.MissingNumbers.{between}
use Rattle.frame_gate.proofs.Missed.{gone, later}
use Rattle.frame_gate.proofs.aging.last_lost.Given as goal

abbrev pub invariant-loop-number : goal.invariant-loop-number
invariant-loop-number g l = record {
  last : fold later l.last (filter (gone l.cells l.limit l.marks) (between l.number l.to))
      ≡ fold later None (filter (gone l.cells l.limit l.marks) (between l.from l.to));
  below : IfSome l.last (λ n. n < l.to);
}
