use Rattle.source_valid.proofs.Losing.{losses}
use Rattle.source_valid.proofs.laws.losses.Goals as goal

pub returns : goal.returns
returns c = losses
