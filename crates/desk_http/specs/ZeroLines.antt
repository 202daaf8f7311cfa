-- The lines that a bridge leaves out of `stats` where all their numbers are 0 (own).
use Rattle.std.specs.Prelude.{ℕ, Bool, if◌then◌else◌, List, [], ◌∷◌, ◌++◌, codes}
use Rattle.std.specs.List.{list_any}
use Rattle.std.specs.Str.{bytes_eq}
use Rattle.desk_http.specs.Readings.{answer_lines, leading_word}

-- a line has this first word
abbrev pub has_line : List ℕ → List (List ℕ) → Bool
has_line word lines = list_any (λ line. bytes_eq (leading_word line) word) lines

-- lines, and behind them this one, if none of them has its first word
abbrev pub with_line : List ℕ → List (List ℕ) → List (List ℕ)
with_line line lines = if has_line (leading_word line) lines then lines else lines ++ line ∷ []

-- the lines of an answer, and behind them each of these that it lacks. No other answer than that to `stats` has rows
-- of these kinds
abbrev pub whole_lines : List ℕ → List (List ℕ)
whole_lines text =
    with_line (codes "limited nacks 0 blocks 0 plis 0")
    (with_line (codes "left-out sources 0 strangers 0 streams 0 reports 0") (answer_lines text))
