use Rattle.std.proofs.Common.{ℕ, ap, subst}
use Rattle.event_loop.specs.Turns.{History, Does, history, gave_ticks}
use Rattle.event_loop.proofs.state.FrontState.tick.Goals as goal

pub returns : goal.returns
returns g c =
    let a = c.self.inside in
    let came = g.I.Inlet.came a.inlet in
    let told = g.C.Watch.told a.watch in
    let tried = g.W.Wire.attempts a.wire in
    let due = c.give_ticks.result in
    let media = c.give_ticks.new.media in
    subst (λ (h : History g.row.P.Denot g.row.S.Denot).
    Does h (gave_ticks due c.args.now) (history media came told tried c.give_ticks.new.ticked a.stats a.kept))
    c.self.view_is
    (record {
      right = c.give_ticks.ensures.due;
      given = c.give_ticks.ensures.did;
      same = ap (λ (k : ℕ). history media came told tried k a.stats a.kept) c.give_ticks.ensures.last;
    })
