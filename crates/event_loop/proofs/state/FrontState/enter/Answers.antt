use Rattle.std.proofs.Common.{ap, subst}
use Rattle.event_loop.specs.declared.kept.FrontKept.{FrontKept}
use Rattle.event_loop.specs.Turns.{History, Does, history, entered_desk}
use Rattle.event_loop.proofs.state.FrontState.enter.Goals as goal

pub returns : goal.returns
returns g c =
    let a = c.self.inside in
    let came = g.I.Inlet.came a.inlet in
    let told = g.C.Watch.told a.watch in
    let tried = g.W.Wire.attempts a.wire in
    subst
    (λ (h : History g.row.P.Denot g.row.S.Denot).
    Does h (entered_desk c.args.rows.now) (history a.media came told tried a.ticked a.stats c.enter.new.self))
    c.self.view_is (ap (λ (k : FrontKept). history a.media came told tried a.ticked a.stats k) c.enter.ensures)
