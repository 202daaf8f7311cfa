-- Moments in the order in which a watch told them (own).
use Rattle.std.specs.Prelude.{◌≤◌, ℕ, List, [], ◌∷◌, max}
use Rattle.std.specs.List.{AllByRecursion}

-- None of these moments is later than this one.
abbrev pub AreUpTo : (moment : ℕ) → List ℕ → Type 0
AreUpTo moment moments = AllByRecursion (λ m. m ≤ moment) moments

-- the latest of these moments, or 0 if there is none
abbrev pub latest : List ℕ → ℕ
latest [] = 0
latest (moment ∷ rest) = max moment (latest rest)

-- No moment is earlier than this one, or than one that stands before it.
abbrev pub RiseFrom : ℕ → List ℕ → Type 0
RiseFrom moment [] = Unit {0}
RiseFrom moment (next ∷ rest) = (moment ≤ next) × RiseFrom next rest
