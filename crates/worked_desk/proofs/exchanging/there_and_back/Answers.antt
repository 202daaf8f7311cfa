use Rattle.std.proofs.Common.{◌≡◌, refl}
use Rattle.desk_rows.specs.Edit.{inverse}
use Rattle.desk_rows.specs.Exchange.{fits, is_apt, exchanged, after}
use Rattle.desk_rows.specs.Desk.{good}
use Rattle.worked_desk.specs.TwoRooms.{two_rooms}
use Rattle.worked_desk.specs.Edits.{six_lists}
use Rattle.worked_desk.proofs.exchanging.there_and_back.Goals as goal

comes_back : after (after two_rooms six_lists) (inverse six_lists) ≡ two_rooms
unfolding after fits is_apt exchanged good
comes_back = refl

pub returns : goal.returns
returns c = simp (c.absorb-3.ensures, c.invert.ensures, c.absorb.ensures, c.requires.rows, c.requires.edit) comes_back
