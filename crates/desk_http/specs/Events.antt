-- The stream of events that a browser gets (own; the format is that of server-sent events, HTML Living Standard
-- section 9.2).
use Rattle.std.specs.Prelude.{◌≡◌, ℕ, ◌==◌, ◌+◌, ◌-◌, ◌^◌, min, Bool, true, ◌&&◌, if◌then◌else◌, List, [], ◌∷◌, ◌++◌}
use Rattle.std.specs.Prelude.{take, drop, codes, Option, Some, None}
use Rattle.std.specs.List.{flat_map}
use Rattle.std.specs.Str.{bytes_eq}
use Rattle.http1.specs.Fields.{Header}
use Rattle.desk_http.specs.Readings.{word_place}
use Rattle.desk_http.specs.Responses.{common_headers}
use Rattle.desk_http.specs.declared.text_edit.TextEdit.{TextEdit}

-- a field of the response's head (RFC 9112 section 5)
abbrev pub field_line : Header → List ℕ
field_line header = header.0 ++ codes ": " ++ header.1 ++ codes "\r\n"

-- the head of a stream, whose body ends with the connection (RFC 9112 section 6.3)
abbrev pub stream_head : List ℕ
stream_head =
    codes "HTTP/1.1 200 OK\r\n"
    ++ flat_map field_line (common_headers ++ (codes "content-type", codes "text/event-stream") ∷ [])
    ++ codes "\r\n"

-- what stands in an event for an octet of its data: each line begins with `data: `
abbrev pub data_octet : ℕ → List ℕ
data_octet octet = if octet == 10 then codes "\ndata: " else octet ∷ []

-- an event with this name and these lines of data
abbrev pub event_text : List ℕ → List ℕ → List ℕ
event_text name told = codes "event: " ++ name ++ codes "\ndata: " ++ flat_map data_octet told ++ codes "\n\n"

-- two texts are the same at both ends of an edit: at the front, behind what goes, and behind what comes
abbrev pub has_ends : TextEdit → List ℕ → List ℕ → Bool
has_ends edit before after =
    bytes_eq (take edit.start before) (take edit.start after)
    && bytes_eq (drop (edit.start + edit.removed) before) (drop (edit.start + edit.inserted) after)

-- such an edit makes the second text: the front of the first one, the octets that come, and what is left of the first
abbrev pub MakesText : Type 0
MakesText =
    (edit : TextEdit) (before after : List ℕ) → has_ends edit before after ≡ true
    → after
    ≡ take edit.start before ++ take edit.inserted (drop edit.start after) ++ drop (edit.start + edit.removed) before

-- how many lines there are up to a place, or none where there is no such place
abbrev pub count_to : Option ℕ → ℕ
count_to None = 0
count_to (Some at) = min (at + 1) (2 ^ 64 - 1)

-- how many lines there are up to this one, or none where it isn't there: those behind them are new
abbrev pub known_lines : List ℕ → List (List ℕ) → ℕ
known_lines line lines = count_to (word_place line lines)
