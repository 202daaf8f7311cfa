use Rattle.std.proofs.Common.{ap, sym, subst, ◌∙◌}
use Rattle.std.specs.Result.{IfOk}
use Rattle.std.proofs.lemmas.Result.{on_err_weaker}
use Rattle.desk_rows.specs.Desk.{Desk}
use Rattle.ingress.specs.Ingested.{ingested_of}
use Rattle.ingress.specs.Ingresses.{TakesIn}
use Rattle.bridge_core.specs.Sound.{HavePlaces}
use Rattle.bridge_core.specs.Steps.{CoreOf}
use Rattle.bridge_core.proofs.DeskCalls.{core_with}
use Rattle.bridge_core.proofs.bridge.Core.datagram.Goals as goal

pub invariant_of-self : goal.invariant_of-self
invariant_of-self g c = subst (HavePlaces c.self.inside.lanes.items) (sym c.datagram.ensures.asker) c.self.invariant

pub returns-clause-takes : goal.returns-clause-takes
returns-clause-takes g c =
    let takes = λ (core : CoreOf) (desk : Desk).
    IfOk c.datagram.result (λ ingest.
    TakesIn core.ingress c.datagram.new.self (ingested_of ingest) c.args.octets.now
    (λ r. record { desk = desk; from = c.args.from.now; moment = c.args.moment; reading = r })) in
    let was = c.self.inside in
    subst (λ (core : CoreOf). takes core core.desk) c.self.view_is
    (subst (takes (core_with was.desk was.lanes.items was.ingress)) c.rows-rows.ensures.rows c.datagram.ensures.takes)

pub returns-clause-err : goal.returns-clause-err
returns-clause-err g c =
    let was = c.self.inside in
    on_err_weaker c.datagram.result (λ same. ap (core_with was.desk was.lanes.items) same ∙ c.self.view_is)
    c.datagram.ensures.err
