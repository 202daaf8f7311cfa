-- What is known of lists goes on to later ones.
use Rattle.std.proofs.Common.{List}
use Rattle.std.specs.Prelude.{Result, Ok, Err, IfOk}
use mathlib.Core.List.{IsPrefix}
use Rattle.published_desk.proofs.Prefixes.{prefix_trans}

-- an entry has all lists that its reader knew
pub ok_later : {X E A : Type 0} (lists : X → List A) (xs ys : List A) (r : Result X E) → IsPrefix xs ys
    → IfOk r (λ e. IsPrefix ys (lists e)) → IfOk r (λ e. IsPrefix xs (lists e))
ok_later lists xs ys (Ok e) p q = prefix_trans xs ys (lists e) p q
ok_later lists xs ys (Err e) p q = tt
