use Rattle.std.proofs.Common.{sym, subst, ◌∙◌}
use Rattle.left_right.specs.Register.{TurnsAt}
use Rattle.left_right.specs.Sides.{view as sight_of}
use Rattle.published_desk.specs.Published.{after_list}
use Rattle.published_desk.specs.inner.Page.{Page}
use Rattle.published_desk.specs.inner.ReaderRule.{Kept, Sees}
use Rattle.published_desk.proofs.ReaderSteps.{looks}
use Rattle.published_desk.proofs.starting.turned.Goals as goal

pub publish_as-writer-requires : goal.publish_as-writer-requires
publish_as-writer-requires g c next is =
    let w = c.args.writer in
    let P : Page → Type 0 = λ y.
    TurnsAt (Kept after_list) w.desk.place.id (sight_of w.desk.place) w.desk.shown.value y (Sees after_list) in
    subst P (sym (is ∙ c.requires.idle)) (looks after_list _ _ _)
