-- What a slot sends of what may be barred.
use Rattle.std.proofs.Common.{◌≡◌, ℕ, Bool, true, false, if◌then◌else◌, Option, None, Some, IfSome, refl, sym, subst}

unless : (barred : Bool) (source : ℕ) → IfSome (if barred then None else Some source) (λ chosen. chosen ≡ source)
unless true source = tt
unless false source = refl

pub only_this : (o : Option ℕ) (barred : Bool) (source : ℕ) → o ≡ (if barred then None else Some source)
    → IfSome o (λ chosen. chosen ≡ source)
only_this o barred source is =
    subst (λ (o : Option ℕ). IfSome o (λ chosen. chosen ≡ source)) (sym is) (unless barred source)
