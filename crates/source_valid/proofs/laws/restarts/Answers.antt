use Rattle.source_valid.proofs.Anew.{restarts}
use Rattle.source_valid.proofs.laws.restarts.Goals as goal

pub returns : goal.returns
returns c = restarts
