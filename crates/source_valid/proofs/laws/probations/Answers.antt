use Rattle.source_valid.proofs.Waits.{probations}
use Rattle.source_valid.proofs.laws.probations.Goals as goal

pub returns : goal.returns
returns c = probations
