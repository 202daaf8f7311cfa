use Rattle.std.proofs.Common.{refl}
use Rattle.topology.specs.Looking.{rate_of}
use Rattle.worked_desk.proofs.Computed.{answers}
use Rattle.worked_desk.specs.TwoRates.{two_rates, rates_of_members}
use Rattle.worked_desk.proofs.clock_rates.rate_of.Goals as goal

pub returns : goal.returns
returns c = answers rate_of two_rates rates_of_members refl c.requires c.rate_of.ensures
