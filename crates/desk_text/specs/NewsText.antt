-- How a call is told as it is accepted (own).
use Rattle.std.specs.Prelude.{ℕ, List, ◌++◌, codes}
use Rattle.call_history.specs.AcceptedCall.{AcceptedOf}
use Rattle.desk_text.specs.HistoryText.{made_line}

-- the line that tells of an accepted call: a word, and its line of a history
abbrev pub news_line : AcceptedOf → List ℕ
news_line m = codes "call " ++ made_line m
