-- Places as they are kept: in two arrays, from a start on and then from the front.
use Rattle.std.specs.Prelude.{◌≡◌, ℕ, ℤ, pos, ◌+◌, ◌≤◌, suc, Bool, if◌then◌else◌, List, [], ◌∷◌, ◌++◌, length, take}
use Rattle.std.specs.Prelude.{drop, replicate, Option, None, Some, unwrap_or, is_none, slice_index_or}
use Rattle.playout.specs.inner.Agrees.{filled}

-- the places of two arrays: whether a sample is there, and the sample
abbrev pub cells_of : List Bool → List ℤ → List (Option ℤ)
cells_of [] samples = []
cells_of (b ∷ present) [] = []
cells_of (b ∷ present) (s ∷ samples) = (if b then Some s else None) ∷ cells_of present samples

-- the places from the start on, and then those before it
abbrev pub turned : ℕ → List (Option ℤ) → List (Option ℤ)
turned start cells = drop start cells ++ take start cells

-- the sample of a place, 0 where there is none
abbrev pub heard : Option ℤ → ℤ
heard cell = unwrap_or cell (pos 0)

-- with samples from a place on. A place that has a sample keeps it.
abbrev pub fills : List (Option ℤ) → ℕ → List ℤ → List (Option ℤ)
fills cells i [] = cells
fills cells i (s ∷ samples) = fills (filled cells i s) (suc i) samples

-- how many of them are kept
abbrev pub news : List (Option ℤ) → ℕ → List ℤ → ℕ
news cells i [] = 0
news cells i (s ∷ samples) =
    (if is_none (slice_index_or cells i None) then 1 else 0) + news (filled cells i s) (suc i) samples

-- with so many places emptied
abbrev pub emptied : ℕ → ℕ → List (Option ℤ) → List (Option ℤ)
emptied at n cells = take at cells ++ (replicate n None ++ drop (at + n) cells)

-- The arrays are of one length, at most 48,000, and the start lies in them.
pub record IsRing (start : ℕ) (present : List Bool) (samples : List ℤ) : Type 0 where
  pub alike : length samples ≡ length present
  pub within : start ≤ length present
  pub most : length present ≤ 48000
