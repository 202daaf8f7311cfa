use Rattle.std.proofs.Common.{ap, sym, subst, ◌∙◌}
use Rattle.std.specs.Result.{IfOk}
use Rattle.std.proofs.lemmas.Result.{on_err_weaker}
use Rattle.desk_rows.specs.Desk.{Desk}
use Rattle.ingress.specs.Ingested.{answered_of}
use Rattle.ingress.specs.Ingresses.{WaitsFor}
use Rattle.bridge_core.specs.Sound.{HavePlaces}
use Rattle.bridge_core.specs.Steps.{CoreOf}
use Rattle.bridge_core.proofs.DeskCalls.{core_with}
use Rattle.bridge_core.proofs.bridge.Core.wait.Goals as goal

pub invariant_of-self : goal.invariant_of-self
invariant_of-self g c = subst (HavePlaces c.self.inside.lanes.items) (sym c.wait.ensures.asker) c.self.invariant

pub returns-clause-waits : goal.returns-clause-waits
returns-clause-waits g c =
    let waits = λ (core : CoreOf) (desk : Desk).
    IfOk c.wait.result (λ answer.
    WaitsFor core.ingress c.wait.new.self (answered_of answer) desk
    (record { address = c.args.from.now; ssrc = c.args.ssrc }) c.args.moment) in
    let was = c.self.inside in
    subst (λ (core : CoreOf). waits core core.desk) c.self.view_is
    (subst (waits (core_with was.desk was.lanes.items was.ingress)) c.rows-rows.ensures.rows c.wait.ensures.waits)

pub returns-clause-err : goal.returns-clause-err
returns-clause-err g c =
    let was = c.self.inside in
    on_err_weaker c.wait.result (λ same. ap (core_with was.desk was.lanes.items) same ∙ c.self.view_is)
    c.wait.ensures.err
