use Rattle.std.proofs.Common.{refl}
use Rattle.desk_edit.specs.Refusals.{refused}
use Rattle.worked_desk.proofs.Computed.{answers}
use Rattle.worked_desk.specs.TwoRooms.{two_rooms}
use Rattle.worked_desk.specs.RefusalCases.{adding_rooms, adding_members, adding_sources, adding_slots, removing_slots}
use Rattle.worked_desk.specs.RefusalCases.{subscribing}
use Rattle.worked_desk.proofs.refusing.refuses.Goals as goal

pub returns-clause-adding_rooms : goal.returns-clause-adding_rooms
unfolding refused
returns-clause-adding_rooms c = answers refused two_rooms adding_rooms refl c.requires c.refusal.ensures

pub returns-clause-adding_members : goal.returns-clause-adding_members
unfolding refused
returns-clause-adding_members c = answers refused two_rooms adding_members refl c.requires c.refusal.ensures

pub returns-clause-adding_sources : goal.returns-clause-adding_sources
unfolding refused
returns-clause-adding_sources c = answers refused two_rooms adding_sources refl c.requires c.refusal.ensures

pub returns-clause-adding_slots : goal.returns-clause-adding_slots
unfolding refused
returns-clause-adding_slots c = answers refused two_rooms adding_slots refl c.requires c.refusal.ensures

pub returns-clause-removing_slots : goal.returns-clause-removing_slots
unfolding refused
returns-clause-removing_slots c = answers refused two_rooms removing_slots refl c.requires c.refusal.ensures

pub returns-clause-subscribing : goal.returns-clause-subscribing
unfolding refused
returns-clause-subscribing c = answers refused two_rooms subscribing refl c.requires c.refusal.ensures
