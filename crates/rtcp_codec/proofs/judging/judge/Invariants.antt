-- What comes behind the rest comes behind the whole.
use Rattle.std.proofs.Common.{length}
use Rattle.rtcp_codec.proofs.Compounds.{GoesOn}
use Rattle.rtcp_codec.proofs.judging.judge.Given as goal

abbrev pub invariant-loop-rest : goal.invariant-loop-rest
invariant-loop-rest l = GoesOn l.rest l.octets

abbrev pub decreases-loop-rest : goal.decreases-loop-rest
decreases-loop-rest l = length l.rest
