use Rattle.source_valid.proofs.Near.{true_numbers}
use Rattle.source_valid.proofs.laws.true_numbers.Goals as goal

pub returns : goal.returns
returns c = true_numbers
