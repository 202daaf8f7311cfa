use Rattle.std.proofs.Common.{refl, ◌∙◌}
use Rattle.desk_rows.specs.Exchange.{fits, is_apt, exchanged, after}
use Rattle.desk_rows.specs.Desk.{good}
use Rattle.worked_desk.proofs.grouping.asks_a_list.Goals as goal

pub returns-clause-twice : goal.returns-clause-twice
unfolding fits is_apt exchanged after good
returns-clause-twice c = λ edits. c.fits.ensures.answer ∙ simp (c.requires, edits) refl

pub returns-clause-once : goal.returns-clause-once
unfolding fits is_apt exchanged after good
returns-clause-once c = λ edits. c.fits.ensures.answer ∙ simp (c.requires, edits) refl
