-- What two blocks tell is what one would tell of both intervals.
use Rattle.std.specs.Prelude.{◌≡◌, ℕ, ◌+◌, ◌-◌, List, ◌++◌, ℤ}
use Rattle.source_valid.specs.Stretches.{expected_of}

-- However a source's packets are cut into intervals, what is expected in each adds up to what is expected of all.
abbrev pub Intervals : Type 0
Intervals =
    (base : ℕ) (first second : List ℤ)
    → expected_of base first + (expected_of base (first ++ second) - expected_of base first)
    ≡ expected_of base (first ++ second)
