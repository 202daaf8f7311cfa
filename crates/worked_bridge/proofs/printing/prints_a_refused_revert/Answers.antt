use Rattle.std.proofs.Common.{rules}
use Rattle.std.specs.Fmt.{digits}
use Rattle.worked_bridge.proofs.printing.prints_a_refused_revert.Goals as goal

pub returns-clause-gone : goal.returns-clause-gone
unfolding digits
returns-clause-gone c = λ why. search (rules, why)

pub returns-clause-far : goal.returns-clause-far
unfolding digits
returns-clause-far c = λ why. search (rules, why)

pub returns-clause-conflict : goal.returns-clause-conflict
unfolding digits
returns-clause-conflict c = λ why. search (rules, why)

pub returns-clause-full : goal.returns-clause-full
unfolding digits
returns-clause-full c = λ why. search (rules, why)

pub returns-clause-elsewhere : goal.returns-clause-elsewhere
unfolding digits
returns-clause-elsewhere c = λ why. search (rules, why)
