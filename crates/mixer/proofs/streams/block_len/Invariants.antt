-- The last rate is its room's.
use Rattle.mixer.specs.inner.Rooms.{IsRate}
use Rattle.mixer.proofs.streams.block_len.Given as goal

abbrev pub invariant-loop-member : goal.invariant-loop-member
invariant-loop-member g l = IsRate l.rows l.last
