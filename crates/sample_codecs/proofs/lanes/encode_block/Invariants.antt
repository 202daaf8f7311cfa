use Rattle.std.proofs.Common.{◌≡◌, ◌+◌, length, take}
use Rattle.std.specs.List.{AllZip}
use Rattle.sample_codecs.specs.MuLaw.{IsCode}
use Rattle.sample_codecs.proofs.lanes.encode_block.Given as goal

abbrev pub invariant-loop-i : goal.invariant-loop-i
invariant-loop-i l =
    (length l.out ≡ length l.samples)
    × (AllZip IsCode (take l.start l.samples) (take l.start l.fn.out)
    → AllZip IsCode (take (l.start + l.i) l.samples) (take (l.start + l.i) l.out))
