use Rattle.source_valid.proofs.Telling.{intervals}
use Rattle.source_valid.proofs.laws.intervals.Goals as goal

pub returns : goal.returns
returns c = intervals
