-- What was moved so far, and what the edits that are left move, make the whole.
use Rattle.std.specs.Prelude.{◌≡◌, length}
use Rattle.desk_revert.specs.Moving.{differ, bring_or_take}
use Rattle.desk_revert.proofs.moving.bring_or_take.Given as goal

abbrev pub invariant-loop-edit : goal.invariant-loop-edit
invariant-loop-edit g l =
    differ l.moved (bring_or_take l.rest l.key) ≡ bring_or_take l.fn.edits l.fn.key

abbrev pub decreases-loop-edit : goal.decreases-loop-edit
decreases-loop-edit g l = length l.rest
