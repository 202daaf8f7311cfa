use Rattle.source_valid.proofs.Telling.{delays}
use Rattle.source_valid.proofs.laws.delays.Goals as goal

pub returns : goal.returns
returns c = delays
