use Rattle.std.proofs.Common.{None}
use Rattle.frame_gate.specs.inner.Cells.{held}
use Rattle.frame_gate.proofs.Results.{if_ok_both}
use Rattle.frame_gate.proofs.Cuts.{placed_tied, cut_is}
use Rattle.frame_gate.proofs.resync.cut.Goals as goal

pub returns-clause-tied : goal.returns-clause-tied
returns-clause-tied g c =
    let at = held c.args.cells.now None in
    let place = c.least_held-place.result in
    let n = c.args.number in
    let before = c.args.frames.now.items in
    let more = c.drain.new.frames.items in
    let bounds = c.least_held-place.ensures.bounds in
    if_ok_both c.drain.result _ _ _
    (λ w stands next given e h.
    placed_tied at given e c.args.walk w before more n place h c.requires.far
    (cut_is at given e c.args.walk before n place h bounds.0 bounds.1 c.least_held-place.ensures.none
    c.least_held-place.ensures.some)
    bounds.0 bounds.1 next.0 stands)
    c.drain.ensures.stands c.drain.ensures.next
