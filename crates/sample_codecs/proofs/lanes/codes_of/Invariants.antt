use Rattle.std.proofs.Common.{◌≡◌, ℕ, ◌+◌, ◌<◌, length, pos, slice_index_or}
use Rattle.sample_codecs.specs.MuLaw.{IsCode}
use Rattle.sample_codecs.proofs.lanes.codes_of.Given as goal

abbrev pub invariant-loop-i : goal.invariant-loop-i
invariant-loop-i l =
    (length l.codes ≡ 16)
    × ((k : ℕ) → k < l.i → IsCode (slice_index_or l.samples (l.start + k) (pos 0)) (slice_index_or l.codes k 0))
