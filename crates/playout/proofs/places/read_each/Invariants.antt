use Rattle.std.proofs.Common.{◌≡◌, ℕ, pos, ◌<◌, length, get_or, cond, false}
use Rattle.playout.proofs.places.read_each.Given as goal

abbrev pub invariant-loop-i : goal.invariant-loop-i
invariant-loop-i l = record {
  long : length l.out ≡ length l.fn.out;
  samples : (j : ℕ) → j < l.i
      → get_or l.out j (pos 0) ≡ cond (get_or l.present j false) (get_or l.samples j (pos 0)) (pos 0);
}
