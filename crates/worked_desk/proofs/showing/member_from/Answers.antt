use Rattle.std.proofs.Common.{refl}
use Rattle.topology.specs.Looking.{member_from}
use Rattle.worked_desk.proofs.Computed.{answers}
use Rattle.worked_desk.specs.ShownRooms.{shown_rooms, at_addresses}
use Rattle.worked_desk.proofs.showing.member_from.Goals as goal

pub returns : goal.returns
returns c = answers member_from shown_rooms at_addresses refl c.requires c.member_from.ensures
