use Rattle.std.proofs.Common.{take, ◌∙◌}
use Rattle.undo_log.proofs.Walks.{backs_fit, back_to}
use Rattle.undo_log.proofs.walking.fit_all.Goals as goal

pub take_back-requires : goal.take_back-requires
take_back-requires g c =
    let done = c.absorb_front-done in
    backs_fit g.S.Reversible.can_absorb g.S.Reversible.after g.S.Reversible.inverse g.met.S.Reversible.inverse_fits
    g.met.S.Reversible.undoes c.args.state.now done.new.state (take done.result c.args.edits.now) done.ensures.fit
    done.ensures.state

pub returns-clause-same : goal.returns-clause-same
returns-clause-same g c =
    let done = c.absorb_front-done in
    c.take_back.ensures
    ∙ back_to g.S.Reversible.can_absorb g.S.Reversible.after g.S.Reversible.inverse g.met.S.Reversible.inverse_fits
    g.met.S.Reversible.undoes c.args.state.now done.new.state (take done.result c.args.edits.now) done.ensures.fit
    done.ensures.state
