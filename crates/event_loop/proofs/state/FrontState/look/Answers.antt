use Rattle.std.proofs.Common.{◌∙◌, List, ℕ, ap, subst}
use Rattle.std.proofs.lemmas.Result.{on_err_weaker}
use Rattle.event_loop.specs.Turns.{History, Does, history, looked}
use Rattle.event_loop.proofs.StepLemmas.{if_ok_both}
use Rattle.event_loop.proofs.state.FrontState.look.Goals as goal

pub returns-clause-ok : goal.returns-clause-ok
returns-clause-ok g c =
    let a = c.self.inside in
    let came = g.I.Inlet.came a.inlet in
    let told = g.C.Watch.told a.watch in
    let tried = g.W.Wire.attempts a.wire in
    if_ok_both c.now.result (λ now is rising.
    subst (λ (h : History g.row.P.Denot g.row.S.Denot).
    Does h (looked now) (history a.media came (g.C.Watch.told c.now.new.self) tried a.ticked a.stats a.kept))
    c.self.view_is
    (record { rising = rising; same = ap (λ (t : List ℕ). history a.media came t tried a.ticked a.stats a.kept) is }))
    c.now.ensures.ok c.now.ensures.rising

pub returns-clause-err : goal.returns-clause-err
returns-clause-err g c =
    let a = c.self.inside in
    let came = g.I.Inlet.came a.inlet in
    let tried = g.W.Wire.attempts a.wire in
    on_err_weaker c.now.result (λ same.
    ap (λ (t : List ℕ). history a.media came t tried a.ticked a.stats a.kept) same ∙ c.self.view_is) c.now.ensures.err
