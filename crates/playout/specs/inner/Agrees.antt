-- What the ring holds.
use Rattle.std.specs.Prelude.{[], ◌≡◌, ℕ, ℤ, ◌+◌, ◌<◌, ◌≤◌, List, length, Option, None, Some, unwrap_or, slice_index_or}
use Rattle.std.specs.Prelude.{slice_set}
use Rattle.playout.specs.Playout.{Pair, sample_at}

-- The cells are the places from p on, and no place behind the last cell has a sample.
pub record Agrees (cells : List (Option ℤ)) (pairs : List Pair) (p : ℕ) : Type 0 where
  pub here : (i : ℕ) → i < length cells → slice_index_or cells i None ≡ sample_at pairs (p + i)
  pub behind : (n : ℕ) → p + length cells ≤ n → sample_at pairs n ≡ None

-- with the sample, where there is none
abbrev pub filled : List (Option ℤ) → ℕ → ℤ → List (Option ℤ)
filled cells i sample = slice_set cells i (Some (unwrap_or (slice_index_or cells i None) sample))

-- No cell has a sample.
abbrev pub IsBlank : List (Option ℤ) → Type 0
IsBlank cells = (p : ℕ) → Agrees cells [] p
