use Rattle.std.proofs.Common.{◌≡◌, length, map, take}
use Rattle.sample_codecs.specs.MuLaw.{decoded}
use Rattle.sample_codecs.proofs.slices.decode_pcmu.Given as goal

abbrev pub invariant-loop-i : goal.invariant-loop-i
invariant-loop-i l = (length l.out ≡ length l.codes) × (take l.i l.out ≡ map decoded (take l.i l.codes))
