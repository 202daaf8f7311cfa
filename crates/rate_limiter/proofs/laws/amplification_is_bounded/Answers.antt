use Rattle.std.proofs.Common.{[], arith}
use Rattle.rate_limiter.proofs.TokenLaws.{run}
use Rattle.rate_limiter.proofs.laws.amplification_is_bounded.Goals as goal

pub returns : goal.returns
returns c address steps = omega (arith, run address steps [])
