use Rattle.std.proofs.Common.{◌≡◌, ℕ, ◌<◌, true}
use Rattle.operator_desk.specs.Gathering.{is_handed_in}
use Rattle.operator_desk.proofs.gathering.missing.Given as goal

abbrev pub invariant-loop-op : goal.invariant-loop-op
invariant-loop-op g l = (n : ℕ) → n < l.op → is_handed_in n l.seats.items ≡ true
