use Rattle.std.proofs.Common.{◌≡◌, ◌*◌, length, take}
use Rattle.sample_codecs.specs.L16.{octets_of, samples_of}
use Rattle.sample_codecs.proofs.l16.encode_l16.Given as goal

abbrev pub invariant-loop-i : goal.invariant-loop-i
invariant-loop-i l =
    (length l.octets ≡ 2 * length l.samples) × (take (2 * l.i) l.octets ≡ octets_of (take l.i l.samples))
    × (samples_of (octets_of (take l.i l.samples)) ≡ take l.i l.samples)
