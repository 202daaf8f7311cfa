-- A request's line until it is handed to the bridge (own).
use Rattle.std.specs.Prelude.{ℕ, ◌≤◌, Bool, false, not, ◌&&◌, if◌then◌else◌, List, [], ◌∷◌, ◌++◌, length, Option}
use Rattle.std.specs.Prelude.{Some, None}
use Rattle.std.specs.Str.{bytes_eq}
use Rattle.desk_http.specs.Lines.{is_names_line, is_events_line, is_file_line}
use Rattle.desk_http.specs.Queries.{query_line, is_query}
use Rattle.desk_http.specs.declared.query.Query.{Query}
use Rattle.desk_http.specs.declared.pending_line.PendingLine.{PendingLine}
use Rattle.desk_http.specs.declared.pending_line.PendingLine.TheVariants as pending

-- no line has come, this line is queued, or it was handed over
pub data Stage : Type 0 where
  reading : Stage
  queued : List ℕ → Stage
  dispatched : Stage

-- how far a line has come
abbrev pub stage_of : PendingLine → Stage
stage_of pending.Reading = reading
stage_of (pending.Queued line) = queued line.items
stage_of pending.Dispatched = dispatched

-- a line is queued: a second one is ignored
abbrev pub after_queue : List ℕ → Stage → Stage
after_queue line reading = queued line
after_queue line (queued earlier) = queued earlier
after_queue line dispatched = dispatched

-- the line that can be handed over
abbrev pub line_at : Stage → Option (List ℕ)
line_at reading = None
line_at (queued line) = Some line
line_at dispatched = None

-- the line was handed over
abbrev pub after_take : Stage → Stage
after_take reading = reading
after_take (queued line) = dispatched
after_take dispatched = dispatched

-- the line of this query is queued
abbrev pub has_query : Query → Stage → Bool
has_query query reading = false
has_query query (queued line) = bytes_eq line (query_line query)
has_query query dispatched = false

-- a line about names is queued
abbrev pub has_names_line : Stage → Bool
has_names_line reading = false
has_names_line (queued line) = is_names_line line
has_names_line dispatched = false

-- the line that asks for the stream of events is queued
abbrev pub has_events_line : Stage → Bool
has_events_line reading = false
has_events_line (queued line) = is_events_line line
has_events_line dispatched = false

-- a line that asks for a file is queued
abbrev pub has_file_line : Stage → Bool
has_file_line reading = false
has_file_line (queued line) = is_file_line line
has_file_line dispatched = false

-- a call is queued: the line is no query, not about names, and asks neither for events nor for a file
abbrev pub has_call : Stage → Bool
has_call reading = false
has_call (queued line) =
    not (is_query line) && not (is_names_line line) && not (is_events_line line) && not (is_file_line line)
has_call dispatched = false

-- what happens to a request's line: it is queued, or it is taken if it is that of a query, if it is a call, if it is
-- about names, if it asks for events, if it asks for a file, or whatever it is
pub data Event : Type 0 where
  queues : List ℕ → Event
  takes_query : Query → Event
  takes_call : Event
  takes_names : Event
  takes_events : Event
  takes_file : Event
  takes : Event

-- the line that is handed over if it fits
abbrev pub line_if : Bool → Stage → Option (List ℕ)
line_if fits stage = if fits then line_at stage else None

-- how far the line has come then
abbrev pub after_take_if : Bool → Stage → Stage
after_take_if fits stage = if fits then after_take stage else stage

-- how far the line has come after an event
abbrev pub after_event : Event → Stage → Stage
after_event (queues line) stage = after_queue line stage
after_event (takes_query query) stage = after_take_if (has_query query stage) stage
after_event takes_call stage = after_take_if (has_call stage) stage
after_event takes_names stage = after_take_if (has_names_line stage) stage
after_event takes_events stage = after_take_if (has_events_line stage) stage
after_event takes_file stage = after_take_if (has_file_line stage) stage
after_event takes stage = after_take stage

-- a line, if there is one, as a list
abbrev pub listed : Option (List ℕ) → List (List ℕ)
listed None = []
listed (Some line) = line ∷ []

-- the lines that an event hands over
abbrev pub dispatched_by : Event → Stage → List (List ℕ)
dispatched_by (queues line) stage = []
dispatched_by (takes_query query) stage = listed (line_if (has_query query stage) stage)
dispatched_by takes_call stage = listed (line_if (has_call stage) stage)
dispatched_by takes_names stage = listed (line_if (has_names_line stage) stage)
dispatched_by takes_events stage = listed (line_if (has_events_line stage) stage)
dispatched_by takes_file stage = listed (line_if (has_file_line stage) stage)
dispatched_by takes stage = listed (line_at stage)

-- the lines that events hand over, one after another
abbrev pub lines_dispatched : List Event → Stage → List (List ℕ)
lines_dispatched [] stage = []
lines_dispatched (event ∷ events) stage = dispatched_by event stage ++ lines_dispatched events (after_event event stage)

-- whatever happens, at most one line is handed over
abbrev pub IsSentAtMostOnce : Type 0
IsSentAtMostOnce = (events : List Event) → length (lines_dispatched events reading) ≤ 1
