-- Lists that grow at their end, and lists of which one element is changed.
use Rattle.std.proofs.Common.{◌≡◌, ◌⊎◌, ◌<◌, ℕ, zero, suc, List, [], ◌∷◌, ◌++◌, length, get_or, Some, Result, Ok, Err}
use Rattle.std.proofs.Common.{IfErr, OnOk, slice_get, slice_set, ap, subst, ◌∙◌, ⊎_elim, arith}
use Rattle.std.proofs.lemmas.List.{length-set}
use Rattle.std.proofs.lemmas.Option.{slice_get-get_or}

-- what holds of each element and of one more
pub each_more : {X : Type 0} (P : ℕ → X → Type 0) (xs : List X) (x : X)
    → ((k : ℕ) (y : X) → slice_get xs k ≡ Some y → P k y) → P (length xs) x
    → (k : ℕ) (y : X) → slice_get (xs ++ x ∷ []) k ≡ Some y → P k y
each_more {X} P [] x all new zero y at = let same : x ≡ y = cc (at) in subst (P 0) same new
each_more P [] x all new (suc k) y at = absurd (cc (at))
each_more P (z ∷ zs) x all new zero y at = all 0 y at
each_more P (z ∷ zs) x all new (suc k) y at = each_more (λ n. P (suc n)) zs x (λ n w e. all (suc n) w e) new k y at

-- one element is changed, or none
pub length_kept : {X : Type 0} (old new : List X) (at : ℕ) (f : X → X) (Q : X → Type 0) → at < length old
    → ((x : X) → slice_get old at ≡ Some x → Q x × (new ≡ slice_set old at (f x))) → length new ≡ length old
length_kept [] new at f Q lt changed = absurd (omega (arith, lt))
length_kept {X} (x ∷ xs) new at f Q lt changed =
    let all : List X = x ∷ xs in
    let y = get_or all at x in
    ap length (changed y (slice_get-get_or all at x lt)).1 ∙ length-set all at (f y)

-- one element is changed where this succeeds, and none else
pub kept_by_push : {X A E : Type 0} (result : Result A E) (old new : List X) (at : ℕ) (f : X → X) (Q : X → Type 0)
    (B : E → Type 0)
    → at < length old
    → OnOk result ((x : X) → slice_get old at ≡ Some x → Q x × (new ≡ slice_set old at (f x)))
    → IfErr result (λ e. B e × (new ≡ old)) → length new ≡ length old
kept_by_push (Ok a) old new at f Q B lt ok err = length_kept old new at f Q lt ok
kept_by_push (Err e) old new at f Q B lt ok err = ap length err.1

-- one element is changed, or none is
pub kept_by_end : {X : Type 0} (old new : List X) (at : ℕ) (f : X → X) → at < length old
    → ((x : X) → slice_get old at ≡ Some x → (new ≡ old) ⊎ (new ≡ slice_set old at (f x))) → length new ≡ length old
kept_by_end [] new at f lt changed = absurd (omega (arith, lt))
kept_by_end {X} (x ∷ xs) new at f lt changed =
    let all : List X = x ∷ xs in
    let y = get_or all at x in
    ⊎_elim
    (λ (same : new ≡ all). ap length same)
    (λ (once : new ≡ slice_set all at (f y)). ap length once ∙ length-set all at (f y))
    (changed y (slice_get-get_or all at x lt))
