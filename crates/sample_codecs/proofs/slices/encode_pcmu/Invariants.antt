use Rattle.std.proofs.Common.{◌≡◌, ◌≤◌, ◌-◌, length, take}
use Rattle.std.specs.List.{AllZip}
use Rattle.sample_codecs.specs.MuLaw.{IsCode}
use Rattle.sample_codecs.proofs.slices.encode_pcmu.Given as goal

abbrev pub invariant-loop-out : goal.invariant-loop-out
invariant-loop-out l = record {
  alike : length l.out ≡ length l.samples;
  within : l.start ≤ length l.out;
  held : AllZip IsCode (take l.start l.samples) (take l.start l.out);
}

abbrev pub decreases-loop-out : goal.decreases-loop-out
decreases-loop-out l = length l.out - l.start

abbrev pub invariant-loop-i : goal.invariant-loop-i
invariant-loop-i l = (length l.out ≡ length l.samples) × AllZip IsCode (take l.i l.samples) (take l.i l.out)
