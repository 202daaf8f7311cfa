use Rattle.std.proofs.Common.{take, Ok}
use Rattle.hex.specs.Hex.{encode_lower}
use Rattle.sample_codecs.specs.L16.{octets_of}
use Rattle.desk_text.specs.inner.Growing.{buffer_of, Grows}
use Rattle.desk_text.proofs.appending.append_samples.Given as goal

-- the samples so far are out
abbrev pub invariant-loop-sample : goal.invariant-loop-sample
invariant-loop-sample g l =
    Grows (buffer_of l.fn.out) (buffer_of l.out) (encode_lower (octets_of (take l.sample-index l.samples))) (Ok tt)
