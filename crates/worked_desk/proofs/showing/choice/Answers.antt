use Rattle.std.proofs.Common.{refl}
use Rattle.topology.specs.Choice.{choice}
use Rattle.worked_desk.proofs.Computed.{answers}
use Rattle.worked_desk.specs.ShownRooms.{shown_rooms, by_subscription, by_room, by_nothing}
use Rattle.worked_desk.proofs.showing.choice.Goals as goal

pub returns-clause-by_subscription : goal.returns-clause-by_subscription
returns-clause-by_subscription c = answers choice shown_rooms by_subscription refl c.requires c.choice.ensures.source

pub returns-clause-by_room : goal.returns-clause-by_room
returns-clause-by_room c = answers choice shown_rooms by_room refl c.requires c.choice.ensures.source

pub returns-clause-by_nothing : goal.returns-clause-by_nothing
returns-clause-by_nothing c = answers choice shown_rooms by_nothing refl c.requires c.choice.ensures.source
