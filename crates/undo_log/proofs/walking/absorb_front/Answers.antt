use Rattle.std.proofs.Common.{◌≡◌, true, take, fold, sym, ap, ◌∙◌}
use Rattle.undo_log.proofs.Walks.{step_fits, step_leads, stops}
use Rattle.undo_log.proofs.walking.absorb_front.Goals as goal

pub absorb_fitting-requires : goal.absorb_fitting-requires
absorb_fitting-requires g c =
    let e = c.index-edits-done.result in
    ap (λ s. g.S.Reversible.can_absorb s e) c.fits.ensures.same ∙ sym c.fits.ensures.answer ∙ c.if-not-fits.false

pub returns-then-not-fits-clause-stop : goal.returns-then-not-fits-clause-stop
returns-then-not-fits-clause-stop g c = λ inside.
    stops g.S.Reversible.can_absorb g.S.Reversible.after c.args.state.now c.args.edits.now c.loop-done.done
    c.index-edits-done.result inside (sym c.index-edits-done.is)
    (ap (λ s. g.S.Reversible.can_absorb s c.index-edits-done.result) (sym c.loop-done.invariant.state)
    ∙ sym c.fits.ensures.answer
    ∙ c.if-not-fits.true)

pub loop-done-preserved : goal.loop-done-preserved
loop-done-preserved g c =
    let e = c.index-edits-done.result in
    let fit : g.S.Reversible.can_absorb
    (fold g.S.Reversible.after c.args.state.now (take c.loop-done.done c.args.edits.now)) e
    ≡ true =
    ap (λ s. g.S.Reversible.can_absorb s e) (sym c.loop-done.invariant.state)
    ∙ sym c.fits.ensures.answer
    ∙ c.if-not-fits.false in
    record {
      fit =
          step_fits g.S.Reversible.can_absorb g.S.Reversible.after c.args.state.now c.args.edits.now c.loop-done.done e
          c.loop-done-test.true (sym c.index-edits-done.is) c.loop-done.invariant.fit fit;
      state =
          c.absorb_fitting.ensures
          ∙ ap (λ s. g.S.Reversible.after s e) (c.fits.ensures.same ∙ c.loop-done.invariant.state)
          ∙ sym (step_leads g.S.Reversible.can_absorb g.S.Reversible.after c.args.state.now c.args.edits.now
          c.loop-done.done e c.loop-done-test.true (sym c.index-edits-done.is));
    }
