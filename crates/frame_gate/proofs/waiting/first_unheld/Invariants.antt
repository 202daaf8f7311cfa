use Rattle.std.proofs.Common.{◌≡◌}
use Rattle.std.specs.Prelude.{filter}
use Rattle.frame_gate.specs.Watched.{first_among}
use Rattle.frame_gate.proofs.MissingNumbers.{between}
use Rattle.frame_gate.proofs.Missed.{lacks}
use Rattle.frame_gate.proofs.waiting.first_unheld.Given as goal

abbrev pub invariant-loop-number : goal.invariant-loop-number
invariant-loop-number g l =
    first_among (filter (lacks l.cells) (between l.number l.to))
    ≡ first_among (filter (lacks l.cells) (between l.from l.to))
