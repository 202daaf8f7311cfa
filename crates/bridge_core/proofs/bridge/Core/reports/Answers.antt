use Rattle.std.proofs.Common.{map, sym, subst}
use Rattle.std.specs.Result.{IfOk}
use Rattle.desk_rows.specs.Desk.{Desk}
use Rattle.ingress.specs.Ingested.{datagram_of}
use Rattle.ingress.specs.Ingresses.{TellsSenders}
use Rattle.bridge_core.specs.Sound.{HavePlaces}
use Rattle.bridge_core.specs.Steps.{CoreOf}
use Rattle.bridge_core.proofs.DeskCalls.{core_with}
use Rattle.bridge_core.proofs.bridge.Core.reports.Goals as goal

pub invariant_of-self : goal.invariant_of-self
invariant_of-self g c = subst (HavePlaces c.self.inside.lanes.items) (sym c.reports.ensures.asker) c.self.invariant

pub returns-clause-tells : goal.returns-clause-tells
returns-clause-tells g c =
    let tells = λ (core : CoreOf) (desk : Desk).
    IfOk c.reports.result
    (λ up. TellsSenders core.ingress c.reports.new.self (map datagram_of up.items) desk c.args.moment) in
    let was = c.self.inside in
    subst (λ (core : CoreOf). tells core core.desk) c.self.view_is
    (subst (tells (core_with was.desk was.lanes.items was.ingress)) c.rows-rows.ensures.rows c.reports.ensures.tells)
