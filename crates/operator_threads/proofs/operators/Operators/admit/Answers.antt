use Rattle.std.proofs.Common.{inr, refl}
use Rattle.operator_connection.specs.Deeds.{refused}
use Rattle.operator_connection.proofs.SittingLemmas.{waited_none, waited_one}
use Rattle.operator_threads.proofs.operators.Operators.admit.Goals as goal

pub returns-in-Some : goal.returns-in-Some
returns-in-Some g c = waited_none _

pub returns-in-None : goal.returns-in-None
returns-in-None g c = let r = c.refuse_seat.ensures in waited_one (refused r.0) _ _ (inr (r.0, refl)) r.1
