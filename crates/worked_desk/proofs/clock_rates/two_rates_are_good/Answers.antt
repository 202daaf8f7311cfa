use Rattle.std.proofs.Common.{refl}
use Rattle.desk_rows.specs.Desk.{good}
use Rattle.worked_desk.proofs.clock_rates.two_rates_are_good.Goals as goal

pub returns : goal.returns
unfolding good
returns c = refl
