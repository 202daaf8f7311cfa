-- So many inputs have a sample before each place so far.
use Rattle.std.proofs.Common.{◌≡◌, ◌≤◌, ◌+◌, ℕ, length, take, slice_index_or}
use Rattle.mix_minus.specs.Mix.{present_in}
use Rattle.mixer.proofs.apart.counts_before.Given as goal

abbrev pub invariant-loop-i : goal.invariant-loop-i
invariant-loop-i g l = record {
  most : l.count ≤ l.i;
  count : l.count ≡ length (present_in (take l.i l.inputs));
  long : length l.counts.items ≡ l.i + 1;
  counts : (k : ℕ) → k ≤ l.i → slice_index_or l.counts.items k 0 ≡ length (present_in (take k l.inputs));
}
