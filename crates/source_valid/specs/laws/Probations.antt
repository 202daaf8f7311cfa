-- Probation lasts while no number is one more than the number before it, and not longer (RFC 3550 A.1, MIN_SEQUENTIAL
-- 2).
use Rattle.std.specs.Prelude.{◌≡◌, ℕ, List, [], ◌∷◌, ◌++◌, fold}
use Rattle.source_valid.specs.Stretches.{begun, following}
use Rattle.source_valid.specs.Histories.{Unheard, Waiting, Valid, after_number}

-- None of the numbers is one more than the number before it.
abbrev pub NoneFollows : ℕ → List ℕ → Type 0
NoneFollows last [] = Unit {0}
NoneFollows last (n ∷ ns) = ¬ (n ≡ following last) × NoneFollows n ns

abbrev pub last_of : ℕ → List ℕ → ℕ
last_of last [] = last
last_of last (n ∷ ns) = last_of n ns

-- All these numbers leave the source on probation, and the next one that is one more initialises it.
abbrev pub Probations : Type 0
Probations =
    (first : ℕ) (ns : List ℕ) → NoneFollows first ns
    → (fold after_number Unheard (first ∷ ns) ≡ Waiting (last_of first ns))
    × (fold after_number Unheard (first ∷ (ns ++ following (last_of first ns) ∷ []))
    ≡ Valid (begun (following (last_of first ns))))
