use Rattle.std.proofs.Common.{◌∙◌, ap}
use Rattle.media_front.specs.PlacesLeft.{places_left}
use Rattle.worked_front.proofs.leaving.leaves_for_others.Goals as goal

pub returns-clause-nack : goal.returns-clause-nack
returns-clause-nack c request is = c.places_left.ensures ∙ ap places_left is

pub returns-clause-block : goal.returns-clause-block
returns-clause-block c told is = c.places_left.ensures ∙ ap places_left is

pub returns-clause-pli : goal.returns-clause-pli
returns-clause-pli c loss is = c.places_left.ensures ∙ ap places_left is

pub returns-clause-frame : goal.returns-clause-frame
returns-clause-frame c f is = c.places_left.ensures ∙ ap places_left is

pub returns-clause-audio : goal.returns-clause-audio
returns-clause-audio c sound is = c.places_left.ensures ∙ ap places_left is

pub returns-clause-tick : goal.returns-clause-tick
returns-clause-tick c moment is = c.places_left.ensures ∙ ap places_left is

pub returns-clause-report : goal.returns-clause-report
returns-clause-report c moment is = c.places_left.ensures ∙ ap places_left is
