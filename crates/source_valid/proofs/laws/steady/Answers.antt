use Rattle.source_valid.proofs.Telling.{steady}
use Rattle.source_valid.proofs.laws.steady.Goals as goal

pub returns : goal.returns
returns c = steady
