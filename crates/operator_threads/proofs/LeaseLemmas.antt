-- The last of the leases that a desk was told.
use Rattle.std.proofs.Common.{◌≡◌, List, [], ◌∷◌, ◌++◌, Option, None}
use Rattle.std.proofs.lemmas.Grind.{fold-append}
use Rattle.operator_threads.specs.Lease.{LeaseOf, last_lease}

-- it is the one that was told behind all others
pub last_told : (list : List (Option LeaseOf)) (lease : Option LeaseOf) → last_lease (list ++ lease ∷ []) ≡ lease
last_told list lease = fold-append (λ (before next : Option LeaseOf). next) None list (lease ∷ [])
