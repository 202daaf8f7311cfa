-- A sender's numbers are found again from their low 16 bits.
use Rattle.std.specs.Prelude.{◌≡◌, ℕ, ◌+◌, ◌<◌, ◌^◌, ◌%◌, max, List, [], ◌∷◌, ◌++◌, fold, map, pos}
use Rattle.source_valid.specs.Stretches.{Stretch, greatest_of, max_dropout, max_misorder, ext_limit}
use Rattle.source_valid.specs.Histories.{Valid, after_number}

-- The number is no dropout after the greatest one before it, and not out of order.
pub record IsNear (g x : ℕ) : Type 0 where
  pub ahead : x < g + max_dropout
  pub behind : g < x + max_misorder
  pub limit : x < ext_limit

-- Each number is near the greatest one before it.
abbrev pub AreNear : ℕ → List ℕ → Type 0
AreNear g [] = Unit {0}
AreNear g (x ∷ xs) = IsNear g x × AreNear (max g x) xs

-- the stretch, with these packets accepted too
abbrev pub with_numbers : Stretch → List ℕ → Stretch
with_numbers s xs = record { base = s.base; accepted = s.accepted ++ map pos xs; jump = s.jump; told = s.told }

-- All packets of a source past probation are accepted, with the sender's numbers as extended numbers.
abbrev pub TrueNumbers : Type 0
TrueNumbers =
    (s : Stretch) (xs : List ℕ) → AreNear (greatest_of s) xs
    → fold after_number (Valid s) (map (λ x. x % 2 ^ 16) xs) ≡ Valid (with_numbers s xs)
