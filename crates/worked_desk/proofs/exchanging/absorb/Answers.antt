use Rattle.std.proofs.Common.{refl}
use Rattle.desk_rows.specs.Exchange.{fits, is_apt, exchanged, after}
use Rattle.desk_rows.specs.Desk.{good}
use Rattle.worked_desk.proofs.Computed.{answers}
use Rattle.worked_desk.specs.TwoRooms.{two_rooms}
use Rattle.worked_desk.specs.DeskCases.{changing_nothing, exchanging_members, exchanging_others}
use Rattle.worked_desk.proofs.exchanging.absorb.Goals as goal

pub returns-clause-changing_nothing : goal.returns-clause-changing_nothing
unfolding after fits is_apt exchanged good
returns-clause-changing_nothing c = answers after two_rooms changing_nothing refl c.requires c.absorb.ensures

pub returns-clause-exchanging_members : goal.returns-clause-exchanging_members
unfolding after fits is_apt exchanged good
returns-clause-exchanging_members c = answers after two_rooms exchanging_members refl c.requires c.absorb.ensures

pub returns-clause-exchanging_others : goal.returns-clause-exchanging_others
unfolding after fits is_apt exchanged good
returns-clause-exchanging_others c = answers after two_rooms exchanging_others refl c.requires c.absorb.ensures
