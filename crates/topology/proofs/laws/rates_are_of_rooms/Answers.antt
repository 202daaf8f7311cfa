use Rattle.topology.proofs.Rates.{of_row, of_pcmu}
use Rattle.topology.proofs.laws.rates_are_of_rooms.Goals as goal

pub returns-clause-room : goal.returns-clause-room
returns-clause-room c = of_row

pub returns-clause-pcmu : goal.returns-clause-pcmu
returns-clause-pcmu c = of_pcmu
