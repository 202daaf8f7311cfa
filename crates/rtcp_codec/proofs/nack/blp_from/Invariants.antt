-- The bits so far name the numbers that were taken.
use Rattle.std.proofs.Common.{◌≡◌, ℕ, ◌-◌, ◌^◌, ◌<◌, ◌≤◌, ◌∷◌, ◌++◌, length, get_or}
use Rattle.rtcp_codec.specs.inner.Greedy.{numbers_up_to}
use Rattle.rtcp_codec.proofs.Packing.{TakesUpTo}
use Rattle.rtcp_codec.proofs.nack.blp_from.Given as goal

abbrev pub invariant-loop-i : goal.invariant-loop-i
invariant-loop-i l = record {
  names : numbers_up_to (l.i - 1) l.pid l.blp ++ l.rest ≡ l.pid ∷ l.numbers;
  below : l.blp < l.bit;
  power : l.bit ≡ 2 ^ (l.i - 1);
  packed : TakesUpTo (l.i - 1) l.pid l.blp l.rest;
  fit : (k : ℕ) → get_or l.rest k 0 < 2 ^ 16;
  left : length l.rest ≤ length l.numbers;
}
