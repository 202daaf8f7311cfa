-- What stands in a beginning of a log.
use Rattle.std.proofs.Common.{◌≡◌, ℕ, zero, suc, List, [], ◌∷◌, Some}
use Rattle.std.specs.Prelude.{slice_get}
use mathlib.Core.List.{IsPrefix}
use Rattle.operator_desk.specs.Entry.{EntryOf}
use Rattle.worked_desk.specs.Has.{Has}

prefix_get : (xs ys : List EntryOf) (k : ℕ) (x : EntryOf) → IsPrefix xs ys → slice_get xs k ≡ Some x
    → slice_get ys k ≡ Some x
prefix_get [] ys k x p h = absurd cc
prefix_get (y ∷ xs) [] k x p h = absurd (cc (p.1))
prefix_get (y ∷ xs) (z ∷ ys) zero x p h = cc (p.1, h)
prefix_get (y ∷ xs) (z ∷ ys) (suc k) x p h = prefix_get xs ys k x (p.0, cc (p.1)) h

pub has_front : (xs ys : List EntryOf) (e : EntryOf) → IsPrefix xs ys → Has xs e → Has ys e
has_front xs ys e p h = (h.0, prefix_get xs ys h.0 e p h.1)
