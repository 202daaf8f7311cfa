use Rattle.std.proofs.Common.{[], arith}
use Rattle.rate_limiter.proofs.AskLaws.{run}
use Rattle.rate_limiter.proofs.laws.asks_are_bounded.Goals as goal

pub returns : goal.returns
returns c address quota window steps order = omega (arith, run quota address window 0 steps [] order tt)
