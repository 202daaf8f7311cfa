use Rattle.source_valid.specs.Histories.{standing_of}
use Rattle.topology.specs.Choice.{sources_of}
use Rattle.std.proofs.Common.{refl}
use Rattle.ingress.proofs.Renewals.{just_these, same_order, nothing_lost}
use Rattle.ingress.proofs.laws.reports_begin_intervals.Goals as goal

pub returns-clause-just : goal.returns-clause-just
returns-clause-just c = λ asker d moment s o h. just_these d o s.known h

pub returns-clause-order : goal.returns-clause-order
returns-clause-order c = λ asker d moment s. same_order d s.known (sources_of d)

pub returns-clause-next : goal.returns-clause-next
returns-clause-next c = λ ssrc moment story. nothing_lost ssrc moment story (standing_of story.given) refl
