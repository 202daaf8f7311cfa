use Rattle.std.proofs.Common.{◌≡◌, ◌∷◌, [], List, OnOk, refl, subst}
use Rattle.event_loop.specs.Turns.{Turn, History, HaveDone, history, let_wait}
use Rattle.event_loop.proofs.StepLemmas.{waits_by}
use Rattle.event_loop.proofs.state.FrontState.wait_all.Goals as goal

pub returns : goal.returns
returns g c =
    let a = c.self.inside in
    let came = g.I.Inlet.came a.inlet in
    let told = g.C.Watch.told a.watch in
    let tried = g.W.Wire.attempts a.wire in
    let rows = c.args.rows.now in
    let new = history c.wait_all.new.self came told (g.W.Wire.attempts c.wait_all.new.wire) a.ticked a.stats a.kept in
    subst
    (λ (h : History g.row.P.Denot g.row.S.Denot).
    (turns : List Turn) × HaveDone turns h new
    × OnOk c.wait_all.result (turns ≡ let_wait rows c.args.now ∷ []))
    c.self.view_is
    (waits_by c.wait_all.result rows c.args.now (history a.media came told tried a.ticked a.stats a.kept) new
    c.wait_all.ensures.waited c.wait_all.ensures.err c.wait_all.ensures.same c.wait_all.ensures.asker refl)
