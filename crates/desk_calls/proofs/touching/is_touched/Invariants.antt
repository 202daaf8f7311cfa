-- The entries that are left tell what all tell.
use Rattle.std.specs.Prelude.{◌≡◌, ◌∷◌, [], length, reverse}
use Rattle.desk_calls.specs.inner.Touching.{touches}
use Rattle.desk_calls.proofs.touching.is_touched.Given as goal

abbrev pub invariant-loop-entry : goal.invariant-loop-entry
invariant-loop-entry g l =
    touches l.struck.items l.fn.key (reverse l.rest) (reverse l.left)
    ≡ touches (l.fn.number ∷ []) l.fn.key (reverse l.fn.entries) (reverse l.fn.edits)

abbrev pub decreases-loop-entry : goal.decreases-loop-entry
decreases-loop-entry g l = length l.rest
