use Rattle.std.proofs.Common.{[], refl}
use Rattle.operator_threads.proofs.operators.Operators.serve.Goals as goal

pub returns-then-is_over-clause-step : goal.returns-then-is_over-clause-step
returns-then-is_over-clause-step g c = ([], refl, refl)
