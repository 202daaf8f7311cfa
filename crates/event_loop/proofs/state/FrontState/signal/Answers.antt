use Rattle.std.proofs.Common.{ap, subst}
use Rattle.event_loop.specs.Turns.{History, Does, history, signalled}
use Rattle.event_loop.proofs.state.FrontState.signal.Goals as goal

pub returns : goal.returns
returns g c =
    let a = c.self.inside in
    let came = g.I.Inlet.came a.inlet in
    let told = g.C.Watch.told a.watch in
    let tried = g.W.Wire.attempts a.wire in
    subst (λ (h : History g.row.P.Denot g.row.S.Denot).
    Does h signalled (history c.signal.new.self came told tried a.ticked a.stats a.kept))
    c.self.view_is (ap (λ f. history f came told tried a.ticked a.stats a.kept) c.signal.ensures)
