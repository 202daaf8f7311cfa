use Rattle.std.proofs.Common.{refl}
use Rattle.desk_rows.specs.Desk.{good}
use Rattle.worked_desk.proofs.showing.shown_rooms_are_good.Goals as goal

pub returns : goal.returns
unfolding good
returns c = refl
