use Rattle.std.proofs.Common.{◌≡◌, ℕ, ◌+◌, ◌<◌, length, pos, slice_index_or}
use Rattle.sample_codecs.specs.MuLaw.{biased}
use Rattle.sample_codecs.proofs.lanes.biased_block.Given as goal

abbrev pub invariant-loop-i : goal.invariant-loop-i
invariant-loop-i l =
    (length l.block ≡ 16)
    × ((k : ℕ) → k < l.i → slice_index_or l.block k 0 ≡ biased (slice_index_or l.samples (l.start + k) (pos 0)))
