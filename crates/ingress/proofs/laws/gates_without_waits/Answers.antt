use Rattle.std.proofs.Common.{◌∙◌, ap}
use Rattle.frame_gate.specs.Watched.{watch_of}
use Rattle.topology.specs.Choice.{sources_of}
use Rattle.ingress.proofs.AloneLemmas.{datagram_alone, reports_alone}
use Rattle.ingress.proofs.laws.gates_without_waits.Goals as goal

pub returns-clause-epoch : goal.returns-clause-epoch
returns-clause-epoch c = λ story packets is.
    ap (λ events. (watch_of events).epoch) is ∙ c.packets_alone_are_an_epoch.ensures packets

pub returns-clause-datagrams : goal.returns-clause-datagrams
returns-clause-datagrams c = λ voice s d h. datagram_alone voice d d.reading s h

pub returns-clause-reports : goal.returns-clause-reports
returns-clause-reports c = λ asker d moment s h. reports_alone d s.known (sources_of d) h
