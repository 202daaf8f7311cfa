use Rattle.std.proofs.Common.{◌∙◌, refl, ap, subst}
use Rattle.event_loop.specs.Turns.{History, Does, history, made_report}
use Rattle.event_loop.proofs.StepLemmas.{on_err}
use Rattle.event_loop.proofs.state.FrontState.report.Goals as goal

pub returns-clause-ok : goal.returns-clause-ok
returns-clause-ok g c =
    let a = c.self.inside in
    let came = g.I.Inlet.came a.inlet in
    let told = g.C.Watch.told a.watch in
    let tried = g.W.Wire.attempts a.wire in
    let due = c.in_ok-due.due in
    let new = history c.report.new.self came told (g.W.Wire.attempts c.report.new.wire) a.ticked a.stats a.kept in
    subst (λ (h : History g.row.P.Denot g.row.S.Denot). Does h (made_report due c.args.rows.now c.args.now) new)
    c.self.view_is (record {
      right = c.in_ok-due.ensures.due;
      made = c.in_ok-due.ensures.reported;
      timer = c.in_ok-due.ensures.timer;
      kept = c.report.ensures.same;
      asker = c.report.ensures.asker;
      same = refl;
    })

pub returns-in_err-due-clause-err : goal.returns-in_err-due-clause-err
returns-in_err-due-clause-err g c =
    let a = c.self.inside in
    let came = g.I.Inlet.came a.inlet in
    let told = g.C.Watch.told a.watch in
    let tried = g.W.Wire.attempts a.wire in
    let same = c.in_err-due.ensures.err in
    on_err c.from_residual.result
    (ap (λ f. history f came told (g.W.Wire.attempts c.report.new.wire) a.ticked a.stats a.kept) same.0
    ∙ (ap (λ t. history a.media came told t a.ticked a.stats a.kept) same.1 ∙ c.self.view_is))
