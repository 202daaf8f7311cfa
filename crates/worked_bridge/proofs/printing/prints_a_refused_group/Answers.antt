use Rattle.std.proofs.Common.{rules}
use Rattle.std.specs.Fmt.{digits}
use Rattle.worked_bridge.proofs.printing.prints_a_refused_group.Goals as goal

pub returns-clause-empty : goal.returns-clause-empty
unfolding digits
returns-clause-empty c = λ why. search (rules, why)

pub returns-clause-long : goal.returns-clause-long
unfolding digits
returns-clause-long c = λ why. search (rules, why)

pub returns-clause-part : goal.returns-clause-part
unfolding digits
returns-clause-part c = λ why. search (rules, why)

pub returns-clause-full : goal.returns-clause-full
unfolding digits
returns-clause-full c = λ why. search (rules, why)
