use Rattle.std.proofs.Common.{ap, subst}
use Rattle.event_loop.specs.declared.kept.FrontKept.{FrontKept}
use Rattle.event_loop.specs.Turns.{History, Does, history, judged_wake}
use Rattle.event_loop.proofs.state.FrontState.judge.Goals as goal

pub returns : goal.returns
returns g c =
    let a = c.self.inside in
    let came = g.I.Inlet.came a.inlet in
    let told = g.C.Watch.told a.watch in
    let tried = g.W.Wire.attempts a.wire in
    let turn = judged_wake c.args.now c.judge.result in
    subst
    (λ (h : History g.row.P.Denot g.row.S.Denot).
    Does h turn (history a.media came told tried a.ticked a.stats c.judge.new.self))
    c.self.view_is (record {
      right = c.judge.ensures.due;
      same = ap (λ (k : FrontKept). history a.media came told tried a.ticked a.stats k) c.judge.ensures.after;
    })
