use Rattle.topology.specs.Looking.{source_from}
use Rattle.ingress.proofs.OtherSources.{order_row, others_row, epochs_row}
use Rattle.ingress.proofs.laws.waits_leave_others_alone.Goals as goal

pub returns-clause-order : goal.returns-clause-order
returns-clause-order c = λ voice d o moment s. order_row voice (source_from d o.ssrc o.address) o moment s

pub returns-clause-others : goal.returns-clause-others
returns-clause-others c = λ voice d o p moment s other.
    others_row voice (source_from d o.ssrc o.address) o p moment s other

pub returns-clause-epochs : goal.returns-clause-epochs
returns-clause-epochs c = λ voice d o moment s. epochs_row voice (source_from d o.ssrc o.address) o moment s
