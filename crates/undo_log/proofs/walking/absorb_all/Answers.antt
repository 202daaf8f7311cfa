use Rattle.std.proofs.Common.{◌<◌, take, length, sym, ◌∙◌, arith}
use Rattle.undo_log.specs.laws.ListLaws.{all_stay}
use Rattle.undo_log.proofs.Walks.{backs_fit, back_to}
use Rattle.undo_log.proofs.walking.absorb_all.Goals as goal

pub take_back-requires : goal.take_back-requires
take_back-requires g c =
    let done = c.absorb_front-done in
    backs_fit g.S.Reversible.can_absorb g.S.Reversible.after g.S.Reversible.inverse g.met.S.Reversible.inverse_fits
    g.met.S.Reversible.undoes c.args.state.now done.new.state (take done.result c.args.edits.now) done.ensures.fit
    done.ensures.state

pub returns-then-done-edits : goal.returns-then-done-edits
returns-then-done-edits g c =
    let done = c.absorb_front-done in
    let short : done.result < length c.args.edits.now = omega arith in
    c.take_back.ensures
    ∙ back_to g.S.Reversible.can_absorb g.S.Reversible.after g.S.Reversible.inverse g.met.S.Reversible.inverse_fits
    g.met.S.Reversible.undoes c.args.state.now done.new.state (take done.result c.args.edits.now) done.ensures.fit
    done.ensures.state
    ∙ sym (all_stay g.S.Reversible.can_absorb g.S.Reversible.after c.args.state.now c.args.edits.now
    (done.ensures.stop short))
