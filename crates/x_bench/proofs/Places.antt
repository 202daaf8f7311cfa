-- Lists by their places.
use Rattle.std.proofs.Common.{◌≡◌, ◌<◌, ℕ, zero, suc, List, [], ◌∷◌, ◌++◌, length, Some, Result, Ok, Err, OnOk, IfErr}
use Rattle.std.proofs.Common.{refl, ap, subst, ◌∙◌, arith}
use Rattle.std.specs.Prelude.{slice_get, slice_set}
use Rattle.std.proofs.lemmas.List.{length-set}

-- what holds of each, at its place, holds with one more behind them
pub one_more : {X : Type 0} (Q : ℕ → X → Type 0) (xs : List X) (x : X)
    → ((place : ℕ) (y : X) → slice_get xs place ≡ Some y → Q place y) → Q (length xs) x
    → (place : ℕ) (y : X) → slice_get (xs ++ x ∷ []) place ≡ Some y → Q place y
one_more Q [] x all last zero y at =
    let same : x ≡ y = cc (at) in
    subst (Q 0) same last
one_more Q [] x all last (suc place) y at = absurd (cc (at))
one_more Q (z ∷ xs) x all last zero y at = all zero y at
one_more Q (z ∷ xs) x all last (suc place) y at =
    one_more (λ n. Q (suc n)) xs x (λ k w e. all (suc k) w e) last place y at

-- there is one at each place
found : {X : Type 0} (xs : List X) (k : ℕ) → k < length xs → (x : X) × (slice_get xs k ≡ Some x)
found [] k low = absurd (omega (arith, low))
found (x ∷ xs) zero low = (x, refl)
found (x ∷ xs) (suc k) low = found xs k (omega (arith, low))

-- a list in which one may have changed is as long as before
pub long_if_ok : {X A B : Type 0} (result : Result A B) (old new : List X) (at : ℕ) (C : X → Type 0) (f : X → X)
    (D : B → Type 0)
    → at < length old
    → OnOk result ((x : X) → slice_get old at ≡ Some x → C x × (new ≡ slice_set old at (f x)))
    → IfErr result (λ e. D e × (new ≡ old))
    → length new ≡ length old
long_if_ok (Ok a) old new at C f D low ok err =
    let here = found old at low in
    ap length (ok here.0 here.1).1 ∙ length-set old at (f here.0)
long_if_ok (Err e) old new at C f D low ok err = ap length err.1
