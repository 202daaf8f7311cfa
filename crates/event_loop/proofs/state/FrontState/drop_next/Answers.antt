use Rattle.std.proofs.Common.{◌∙◌, List, ap, subst}
use Rattle.std.proofs.lemmas.Result.{on_err_weaker}
use Rattle.event_loop.specs.Came.{Came, came_by}
use Rattle.event_loop.specs.Turns.{History, Does, history, passed}
use Rattle.event_loop.proofs.StepLemmas.{if_ok_map}
use Rattle.event_loop.proofs.state.FrontState.drop_next.Goals as goal

pub returns-clause-ok : goal.returns-clause-ok
returns-clause-ok g c =
    let a = c.self.inside in
    let came = g.I.Inlet.came a.inlet in
    let told = g.C.Watch.told a.watch in
    let tried = g.W.Wire.attempts a.wire in
    let new = history a.media (g.I.Inlet.came c.read.new.self) told tried a.ticked a.stats a.kept in
    if_ok_map c.read.result (λ read is.
    subst (λ (h : History g.row.P.Denot g.row.S.Denot). Does h (passed (came_by read c.read.new.chunk.items)) new)
    c.self.view_is (ap (λ (l : List Came). history a.media l told tried a.ticked a.stats a.kept) is)) c.read.ensures.ok

pub returns-clause-err : goal.returns-clause-err
returns-clause-err g c =
    let a = c.self.inside in
    let told = g.C.Watch.told a.watch in
    let tried = g.W.Wire.attempts a.wire in
    on_err_weaker c.read.result (λ same.
    ap (λ (l : List Came). history a.media l told tried a.ticked a.stats a.kept) same ∙ c.self.view_is)
    c.read.ensures.err
