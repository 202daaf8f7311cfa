use Rattle.std.proofs.Common.{◌∙◌, ap, subst}
use Rattle.event_loop.specs.declared.kept.FrontKept.{FrontKept}
use Rattle.event_loop.specs.Turns.{History, Does, history, saw_desk}
use Rattle.event_loop.proofs.StepLemmas.{on_err}
use Rattle.event_loop.proofs.state.FrontState.see_desk.Goals as goal

pub returns-clause-ok : goal.returns-clause-ok
returns-clause-ok g c =
    let a = c.self.inside in
    let came = g.I.Inlet.came a.inlet in
    let told = g.C.Watch.told a.watch in
    let tried = g.W.Wire.attempts a.wire in
    let turn = saw_desk c.in_ok-later.later c.args.version c.args.rows.now c.args.now in
    subst
    (λ (h : History g.row.P.Denot g.row.S.Denot).
    Does h turn (history a.media came told tried a.ticked a.stats c.see.new.self))
    c.self.view_is (record {
      right = c.in_ok-later.ensures.right;
      same = ap (λ (k : FrontKept). history a.media came told tried a.ticked a.stats k) c.in_ok-later.ensures.after;
    })

pub returns-in_err-later-clause-err : goal.returns-in_err-later-clause-err
returns-in_err-later-clause-err g c =
    let a = c.self.inside in
    let came = g.I.Inlet.came a.inlet in
    let told = g.C.Watch.told a.watch in
    let tried = g.W.Wire.attempts a.wire in
    on_err c.from_residual.result
    (ap (λ (k : FrontKept). history a.media came told tried a.ticked a.stats k) c.in_err-later.ensures.err
    ∙ c.self.view_is)
