-- The entries that are left tell what all tell.
use Rattle.std.specs.Prelude.{◌≡◌, true, length, reverse}
use Rattle.desk_edit.specs.InForce.{falls, from_newest, in_force}
use Rattle.desk_edit.specs.Reverts.{is_made}
use Rattle.desk_calls.proofs.striking.is_in_force.Given as goal

abbrev pub invariant-loop-entry : goal.invariant-loop-entry
invariant-loop-entry g l = record {
  fall : falls (reverse l.rest) ≡ true;
  same : is_made l.fn.number (from_newest l.struck.items (reverse l.rest))
      ≡ is_made l.fn.number (in_force l.fn.entries);
}

abbrev pub decreases-loop-entry : goal.decreases-loop-entry
decreases-loop-entry g l = length l.rest
