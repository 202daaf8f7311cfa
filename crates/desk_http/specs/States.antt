-- The desk's texts, numbered, and which of them a browser has (own).
use Rattle.std.specs.Prelude.{ℕ, ◌+◌, ◌-◌, ◌^◌, min, Bool, true, false, ◌&&◌, if◌then◌else◌, nat_le, List, ◌++◌}
use Rattle.std.specs.Prelude.{codes, length, take, drop, Option, Some, None}
use Rattle.std.specs.Str.{bytes_eq}
use Rattle.std.specs.Fmt.{decimal}
use Rattle.desk_http.specs.declared.desk_texts.DeskTexts.{DeskTexts}
use Rattle.desk_http.specs.declared.query.Query.TheVariants.{Desk, History, Calls, Stats}
use Rattle.desk_http.specs.declared.query.AnswerForm.TheVariants.{Lines, Json, Metrics}
use Rattle.desk_http.specs.declared.routing.Route.{Route}
use Rattle.desk_http.specs.declared.routing.Route.TheVariants as routes
use Rattle.desk_http.specs.declared.responding.BridgeReply.{BridgeReply}
use Rattle.desk_http.specs.declared.responding.BridgeReply.TheVariants.{Text, Busy, Gone, Lost, Full, Newer}
use Rattle.desk_http.specs.declared.responding.BridgeReply.TheVariants.{Missing}
use Rattle.desk_http.specs.BridgeRequests.{before_last_lf, last_line}

-- the number of a text that comes after others: a text that is as the last one keeps its number
abbrev pub number_after : DeskTexts → List ℕ → ℕ
number_after texts text =
    if bytes_eq texts.text.items text then texts.number else min (texts.number + 1) (2 ^ 64 - 1)

-- the line that names a text: this run of the program, and the text's number
abbrev pub state_line : List ℕ → ℕ → List ℕ
state_line run number = codes "state " ++ run ++ codes "-" ++ decimal number ++ codes "\n"

-- the line is `state` and this word
abbrev pub is_state : List ℕ → List ℕ → Bool
is_state word line =
    nat_le 6 (length line) && bytes_eq (take 6 line) (codes "state ") && bytes_eq (drop 6 line) word

-- the state that a query names, as `after=STATE`
abbrev pub state_in : List ℕ → Option (List ℕ)
state_in query =
    if nat_le 6 (length query) && bytes_eq (take 6 query) (codes "after=") then Some (drop 6 query) else None

-- a state is the one that the text's last line names
abbrev pub is_seen : Option (List ℕ) → Option (List ℕ) → Bool
is_seen None text = false
is_seen (Some word) None = false
is_seen (Some word) (Some text) = is_state word (last_line text)

-- the route asks for the lines of the desk
abbrev pub is_desk_lines : Route → Bool
is_desk_lines (routes.Read Desk Lines) = true
is_desk_lines (routes.Read Desk Json) = false
is_desk_lines (routes.Read Desk Metrics) = false
is_desk_lines (routes.Read History form) = false
is_desk_lines (routes.Read Calls form) = false
is_desk_lines (routes.Read Stats form) = false
is_desk_lines routes.Page = false
is_desk_lines (routes.File kind) = false
is_desk_lines routes.Events = false
is_desk_lines routes.Call = false
is_desk_lines routes.Names = false
is_desk_lines routes.ChangeNames = false
is_desk_lines (routes.Refused refusal) = false

-- the browser has the desk's text: its query names the state that the answer ends with
abbrev pub is_known : Route → Option (List ℕ) → BridgeReply → Bool
is_known route None reply = false
is_known route (Some query) (Text answer) =
    is_desk_lines route && is_seen (state_in query) (before_last_lf answer.items)
is_known route (Some query) Busy = false
is_known route (Some query) Gone = false
is_known route (Some query) Lost = false
is_known route (Some query) Full = false
is_known route (Some query) (Newer call) = false
is_known route (Some query) Missing = false
