use Rattle.retransmit.proofs.InARow.{pushed, may_follow-latest, in_a_row-append, in_a_row-parts}
use Rattle.retransmit.proofs.laws.so_far.Goals as goal

pub returns-clause-pushed : goal.returns-clause-pushed
returns-clause-pushed c = pushed

pub returns-clause-may_follow : goal.returns-clause-may_follow
returns-clause-may_follow c = may_follow-latest

pub returns-clause-in_a_row : goal.returns-clause-in_a_row
returns-clause-in_a_row c sent p = (in_a_row-parts sent p, λ h. in_a_row-append sent p h.0 h.1)
