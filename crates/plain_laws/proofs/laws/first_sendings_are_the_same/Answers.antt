use Rattle.std.specs.Prelude.{[]}
use Rattle.plain_laws.proofs.RunAlong.{firsts_same}
use Rattle.plain_laws.proofs.laws.first_sendings_are_the_same.Goals as goal

pub returns : goal.returns
returns c who lanes start steps name = firsts_same who lanes start name [] steps
