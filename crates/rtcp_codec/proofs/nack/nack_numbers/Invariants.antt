-- The numbers so far are those up to the last bit that was looked at.
use Rattle.std.proofs.Common.{◌≡◌, ◌-◌}
use Rattle.rtcp_codec.specs.inner.Greedy.{numbers_up_to}
use Rattle.rtcp_codec.proofs.nack.nack_numbers.Given as goal

abbrev pub invariant-loop-i : goal.invariant-loop-i
invariant-loop-i g l = l.numbers.items ≡ numbers_up_to (l.i - 1) l.pid l.blp
