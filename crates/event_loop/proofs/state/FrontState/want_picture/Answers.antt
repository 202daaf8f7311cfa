use Rattle.std.proofs.Common.{◌∙◌, ap, subst}
use Rattle.event_loop.specs.declared.kept.FrontKept.{FrontKept}
use Rattle.event_loop.specs.Turns.{History, Does, history, wanted_picture}
use Rattle.event_loop.proofs.StepLemmas.{on_err}
use Rattle.event_loop.proofs.state.FrontState.want_picture.Goals as goal

pub returns-clause-ok : goal.returns-clause-ok
returns-clause-ok g c =
    let a = c.self.inside in
    let came = g.I.Inlet.came a.inlet in
    let told = g.C.Watch.told a.watch in
    let tried = g.W.Wire.attempts a.wire in
    let turn = wanted_picture c.args.source.now c.args.now in
    subst
    (λ (h : History g.row.P.Denot g.row.S.Denot).
    Does h turn (history a.media came told tried a.ticked a.stats c.want.new.self))
    c.self.view_is
    (ap (λ (k : FrontKept). history a.media came told tried a.ticked a.stats k) c.in_ok-want.ensures.after)

pub returns-in_err-want-clause-err : goal.returns-in_err-want-clause-err
returns-in_err-want-clause-err g c =
    let a = c.self.inside in
    let came = g.I.Inlet.came a.inlet in
    let told = g.C.Watch.told a.watch in
    let tried = g.W.Wire.attempts a.wire in
    on_err c.from_residual.result
    (ap (λ (k : FrontKept). history a.media came told tried a.ticked a.stats k) c.in_err-want.ensures.err
    ∙ c.self.view_is)
