-- Lists of edits, each as one edit of a desk: what a call does is one.
use Rattle.std.specs.Prelude.{Bool, List}
use Rattle.undo_log.specs.Timeline.{all_fit}
use Rattle.undo_log.specs.Lists.{after_all, inverses}
use Rattle.desk_rows.specs.Desk.{Desk}
use Rattle.desk_rows.specs.Edit.{EditOf, inverse as one_inverse}
use Rattle.desk_rows.specs.Exchange.{fits as one_fits, after as one_after}

-- each fits the desk that those before it leave
abbrev pub fits : Desk → List EditOf → Bool
fits d es = all_fit one_fits one_after d es

-- the desk after all of them, or the desk as it is, where they don't fit
abbrev pub after : Desk → List EditOf → Desk
after d es = after_all one_fits one_after d es

-- the edits that take them back
abbrev pub inverse : List EditOf → List EditOf
inverse es = inverses one_inverse es
