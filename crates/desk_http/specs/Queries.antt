-- What the page asks the bridge without changing anything (own).
use Rattle.std.specs.Prelude.{ℕ, Bool, ◌||◌, List, codes}
use Rattle.std.specs.Str.{bytes_eq}
use Rattle.desk_http.specs.declared.query.Query.{Query}
use Rattle.desk_http.specs.declared.query.Query.TheVariants as queries

-- the line that asks for all rows of the desk, for the last 256 calls in force and the last 256 that can be redone, for
-- the last 512 calls of the log, or for what the bridge counts
abbrev pub query_line : Query → List ℕ
query_line queries.Desk = codes "show"
query_line queries.History = codes "history 256"
query_line queries.Calls = codes "calls 512"
query_line queries.Stats = codes "stats"

-- the line that asks for the newest call, by which the page follows the desk: its answer ends by the desk's version
abbrev pub latest_line : List ℕ
latest_line = codes "history 1"

-- the line asks what the bridge counts
abbrev pub is_stats : List ℕ → Bool
is_stats line = bytes_eq line (query_line queries.Stats)

-- the line asks for the calls of the log
abbrev pub is_calls : List ℕ → Bool
is_calls line = bytes_eq line (query_line queries.Calls)

-- the line is one of these, or the one that asks for the newest call
abbrev pub is_query : List ℕ → Bool
is_query line =
    bytes_eq line (query_line queries.Desk) || bytes_eq line (query_line queries.History) || is_calls line
    || is_stats line || bytes_eq line latest_line
