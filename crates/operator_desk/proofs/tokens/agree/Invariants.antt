use Rattle.operator_desk.proofs.TokenLemmas.{Agree}
use Rattle.operator_desk.proofs.tokens.agree.Given as goal

abbrev pub invariant-loop-k : goal.invariant-loop-k
invariant-loop-k l = Agree l.k l.fewer.items l.more.items
