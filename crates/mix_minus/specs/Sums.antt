-- Sums of samples, and how great they may be.
use Rattle.std.specs.Prelude.{ℕ, ℤ, pos, ◌<◌, ◌≤ℤ◌, neg_ℤ, List, length, slice_index_or}

-- the sum at this place
abbrev pub at : List ℤ → ℕ → ℤ
at xs i = slice_index_or xs i (pos 0)

-- A number is at most this far from 0.
pub record IsWithin (bound : ℕ) (z : ℤ) : Type 0 where
  pub low : neg_ℤ (pos bound) ≤ℤ z
  pub high : z ≤ℤ pos bound

-- Each sum is at most this far from 0.
pub record AreSmall (bound : ℕ) (sums : List ℤ) : Type 0 where
  pub small : (i : ℕ) → i < length sums → IsWithin bound (at sums i)
