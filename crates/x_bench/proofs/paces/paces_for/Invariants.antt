use Rattle.std.proofs.Common.{◌≡◌, [], All}
use Rattle.rtrb.specs.Ring.{sent}
use Rattle.x_bench.proofs.paces.paces_for.Given as goal

abbrev pub invariant-loop-lane : goal.invariant-loop-lane
invariant-loop-lane g l = All (λ outfit. sent outfit.1 ≡ []) l.outfits.items
