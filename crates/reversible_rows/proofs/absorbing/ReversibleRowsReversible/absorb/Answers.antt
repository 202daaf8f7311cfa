use Rattle.desk_rows.specs.laws.Words.{sym, ◌∙◌}
use Rattle.desk_rows.specs.laws.Laws.{stays}
use Rattle.reversible_rows.proofs.absorbing.ReversibleRowsReversible.absorb.Goals as goal

pub returns-else-fits : goal.returns-else-fits
returns-else-fits g c =
    c.fits.ensures.same ∙ sym (stays c.args.self.now c.args.edit.now (sym c.fits.ensures.answer ∙ c.if-fits.false))
