use Rattle.std.proofs.Common.{◌≡◌, [], All}
use Rattle.rtrb.specs.Ring.{sent}
use Rattle.x_tests_lanes.proofs.rings.outfits.Given as goal

abbrev pub invariant-loop-pace : goal.invariant-loop-pace
invariant-loop-pace g l = All (λ outfit. sent outfit.1 ≡ []) l.outfits.items
