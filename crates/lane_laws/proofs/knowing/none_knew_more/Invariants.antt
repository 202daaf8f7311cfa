use Rattle.lane_laws.proofs.KnownLemmas.{FirstKnown}
use Rattle.lane_laws.proofs.knowing.none_knew_more.Given as goal

abbrev pub invariant-loop-at : goal.invariant-loop-at
invariant-loop-at g l = FirstKnown l.at l.last.lists l.ends.items
