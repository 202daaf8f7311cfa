-- The keys that are left tell what all tell.
use Rattle.std.specs.Prelude.{◌≡◌, length, reverse}
use Rattle.desk_calls.specs.inner.Touching.{elsewhere_by}
use Rattle.desk_calls.proofs.touching.no_other_moves.Given as goal

abbrev pub invariant-loop-key : goal.invariant-loop-key
invariant-loop-key g l =
    elsewhere_by l.fn.number (reverse l.fn.entries) (reverse l.fn.edits) l.rest
    ≡ elsewhere_by l.fn.number (reverse l.fn.entries) (reverse l.fn.edits) l.fn.keys

abbrev pub decreases-loop-key : goal.decreases-loop-key
decreases-loop-key g l = length l.rest
