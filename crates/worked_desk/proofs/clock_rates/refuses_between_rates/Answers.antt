use Rattle.std.proofs.Common.{refl}
use Rattle.desk_edit.specs.Refusals.{refused}
use Rattle.worked_desk.proofs.Computed.{answers}
use Rattle.worked_desk.specs.TwoRates.{two_rates, adding_rated_rooms, joining, moving_between_rates}
use Rattle.worked_desk.proofs.clock_rates.refuses_between_rates.Goals as goal

pub returns-clause-adding_rated_rooms : goal.returns-clause-adding_rated_rooms
unfolding refused
returns-clause-adding_rated_rooms c = answers refused two_rates adding_rated_rooms refl c.requires c.refusal.ensures

pub returns-clause-joining : goal.returns-clause-joining
unfolding refused
returns-clause-joining c = answers refused two_rates joining refl c.requires c.refusal.ensures

pub returns-clause-moving : goal.returns-clause-moving
unfolding refused
returns-clause-moving c = answers refused two_rates moving_between_rates refl c.requires c.refusal.ensures
