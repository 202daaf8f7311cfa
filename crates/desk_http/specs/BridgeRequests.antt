-- How much of the bridge's reply to a line has come (own).
use Rattle.std.specs.Prelude.{ℕ, ◌-◌, Bool, not, ◌&&◌, ◌||◌, if◌then◌else◌, nat_eq, nat_lt, nat_le, List, length, take}
use Rattle.std.specs.Prelude.{drop, slice_index, codes, Option, Some, None}
use Rattle.std.specs.List.{list_any, suffix_len}
use Rattle.std.specs.Str.{bytes_eq}
use Rattle.desk_http.specs.Queries.{is_query, is_stats, is_calls}
use Rattle.desk_http.specs.declared.bridge_request.ReplyProgress.{ReplyProgress}
use Rattle.desk_http.specs.declared.bridge_request.ReplyProgress.TheVariants.{Partial, Complete, Busy, Malformed}

-- an LF, which ends a line
abbrev pub is_lf : ℕ → Bool
is_lf octet = nat_eq octet 10

-- an octet that isn't an LF
abbrev pub is_not_lf : ℕ → Bool
is_not_lf octet = not (nat_eq octet 10)

-- an LF is in the text
abbrev pub has_lf : List ℕ → Bool
has_lf text = list_any is_lf text

-- the text without the LF at its end, if it has one there
abbrev pub before_last_lf : List ℕ → Option (List ℕ)
before_last_lf text =
    if nat_lt 0 (length text) && nat_eq (slice_index text (length text - 1)) 10 then Some (take (length text - 1) text)
    else None

-- the octets after the last LF
abbrev pub last_line : List ℕ → List ℕ
last_line text = drop (length text - suffix_len is_not_lf text) text

-- the last line begins with `end `
abbrev pub has_end_line : List ℕ → Bool
has_end_line text = nat_le 4 (length (last_line text)) && bytes_eq (take 4 (last_line text)) (codes "end ")

-- the reply to a query ends with the line `end VERSION`
abbrev pub query_progress : Option (List ℕ) → ReplyProgress
query_progress None = Partial
query_progress (Some text) = if has_end_line text then Complete else Partial

-- the last line is `end`
abbrev pub has_plain_end : List ℕ → Bool
has_plain_end text = bytes_eq (last_line text) (codes "end")

-- the text begins as the answer to a faulty line
abbrev pub is_fault : List ℕ → Bool
is_fault text = nat_le 6 (length text) && bytes_eq (take 6 text) (codes "fault ")

-- The reply to `stats` or to `calls` ends with the line `end`, or is a fault. A word may stand behind that `end`.
abbrev pub listing_progress : Option (List ℕ) → ReplyProgress
listing_progress None = Partial
listing_progress (Some text) =
    if (has_plain_end text || has_end_line text) || is_fault text then Complete else Partial

-- the reply to a call is one line
abbrev pub call_progress : List ℕ → Option (List ℕ) → ReplyProgress
call_progress received None = if has_lf received then Malformed else Partial
call_progress received (Some text) = if has_lf text then Malformed else Complete

-- the most octets of a reply: 16 MiB, six times the rows of a full desk
abbrev pub longest_reply : ℕ
longest_reply = 16777216

-- the progress of the reply to a line
abbrev pub progress_of : List ℕ → List ℕ → ReplyProgress
progress_of line received =
    if bytes_eq received (codes "busy\n") then Busy
    else if nat_lt longest_reply (length received) then Malformed
    else if is_stats line || is_calls line then listing_progress (before_last_lf received)
    else if is_query line then query_progress (before_last_lf received)
    else call_progress received (before_last_lf received)
