use Rattle.std.proofs.Common.{refl}
use Rattle.topology.specs.Looking.{room_rate}
use Rattle.worked_desk.proofs.Computed.{answers}
use Rattle.worked_desk.specs.TwoRates.{two_rates, rates_of_rooms}
use Rattle.worked_desk.proofs.clock_rates.room_rate.Goals as goal

pub returns : goal.returns
returns c = answers room_rate two_rates rates_of_rooms refl c.requires c.room_rate.ensures
