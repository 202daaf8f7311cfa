use Rattle.std.proofs.Common.{inl, refl}
use Rattle.operator_connection.specs.Deeds.{round_alone}
use Rattle.operator_connection.proofs.SittingLemmas.{had_one, had_more}
use Rattle.operator_threads.proofs.operators.Operators.greet.Goals as goal

pub returns-in-Over : goal.returns-in-Over
returns-in-Over g c = let r = c.round_without_seat.ensures in had_one (round_alone r.0) _ _ (inl (r.0, refl)) r.1

pub returns-in-Waits : goal.returns-in-Waits
returns-in-Waits g c = let r = c.round_without_seat.ensures in had_one (round_alone r.0) _ _ (inl (r.0, refl)) r.1

pub returns-in-Good : goal.returns-in-Good
returns-in-Good g c =
    let r = c.round_without_seat.ensures in
    had_more _ _ _ (had_one (round_alone r.0) _ _ (inl (r.0, refl)) r.1) c.admit.ensures
