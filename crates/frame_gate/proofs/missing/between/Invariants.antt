use Rattle.std.proofs.Common.{◌≡◌, ◌++◌, map}
use Rattle.frame_gate.specs.Packets.{ext_of}
use Rattle.frame_gate.proofs.MissingNumbers.{between}
use Rattle.frame_gate.proofs.missing.between.Given as goal

abbrev pub invariant-loop-n : goal.invariant-loop-n
invariant-loop-n g l = l.out.items ++ map ext_of (between l.n l.end) ≡ map ext_of (between l.fn.start l.end)
