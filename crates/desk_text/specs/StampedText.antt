-- How accepted calls are told with their stamps (own).
use Rattle.std.specs.Prelude.{ℕ, Bool, true, false, List, [], ◌∷◌, ◌++◌, codes, decimal}
use Rattle.std.specs.List.{flat_map}
use Rattle.call_history.specs.Stamp.{StampedOf}
use Rattle.desk_text.specs.Calls.{call_line}
use Rattle.desk_text.specs.HistoryText.{end_line}
use Rattle.desk_text.specs.NewsText.{news_line}

-- the line of an accepted call with its stamp: a word, its number, its moment, its operator, the name, the words of the
-- call, and an LF
abbrev pub stamped_line : StampedOf → List ℕ
stamped_line s =
    codes "call " ++ decimal s.made.number ++ codes " " ++ decimal s.stamp.moment ++ codes " " ++ decimal s.made.op
    ++ codes " " ++ s.stamp.name ++ codes " " ++ call_line s.made.call ++ codes "\n"

-- the line that tells of an accepted call: with its stamp, or without it
abbrev pub told_line : (is_named : Bool) → StampedOf → List ℕ
told_line true s = stamped_line s
told_line false s = news_line s.made

-- the lines that tell of accepted calls
abbrev pub told_text : (is_named : Bool) → List StampedOf → List ℕ
told_text is_named calls = flat_map (told_line is_named) calls

-- these accepted calls with their stamps, oldest first, and the version
abbrev pub calls_text : List StampedOf → (version : ℕ) → List ℕ
calls_text calls version = told_text true calls ++ end_line version
