use Rattle.std.proofs.Common.{◌∷◌, [], refl, subst}
use Rattle.event_loop.specs.Turns.{History, HaveDone, history, looked}
use Rattle.event_loop.proofs.StepLemmas.{is_ok, looked_same}
use Rattle.event_loop.proofs.state.FrontState.wait.Goals as goal

pub returns : goal.returns
returns g c =
    let a = c.self.inside in
    let came = g.I.Inlet.came a.inlet in
    let told = g.C.Watch.told a.watch in
    let tried = g.W.Wire.attempts a.wire in
    let now = c.in_ok-now.now in
    let later = g.C.Watch.told c.now.new.self in
    let new = history a.media (g.I.Inlet.came c.wait.new.self) later tried a.ticked a.stats a.kept in (
      looked now ∷ [],
      subst (λ (h : History g.row.P.Denot g.row.S.Denot). HaveDone (looked now ∷ []) h new) c.self.view_is
          (looked_same a.media came (g.I.Inlet.came c.wait.new.self) told later tried a.ticked a.stats a.kept now
          c.wait.ensures.same c.in_ok-now.ensures.rising c.in_ok-now.ensures.ok),
      is_ok c.wait.result (now, refl),
    )
