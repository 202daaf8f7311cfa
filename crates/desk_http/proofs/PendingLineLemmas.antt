-- A line is handed over at most once.
use Rattle.std.proofs.Common.{◌≡◌, ℕ, ◌≤◌, Bool, true, false, List, [], ◌∷◌, ◌++◌, length, refl, sym, subst, arith}
use Rattle.desk_http.specs.PendingLines.{Event, queues, takes, takes_query, takes_call, takes_names, takes_events}
use Rattle.desk_http.specs.PendingLines.{takes_file, has_file_line}
use Rattle.desk_http.specs.PendingLines.{reading, queued, dispatched, lines_dispatched, listed, line_if, after_take_if}
use Rattle.desk_http.specs.PendingLines.{has_query, has_call, has_names_line, has_events_line}

-- once it was handed over, nothing more is
pub lines-dispatched : (events : List Event) → lines_dispatched events dispatched ≡ []
lines-dispatched [] = refl
lines-dispatched (queues line ∷ events) = lines-dispatched events
lines-dispatched (takes_query query ∷ events) = lines-dispatched events
lines-dispatched (takes_call ∷ events) = lines-dispatched events
lines-dispatched (takes_names ∷ events) = lines-dispatched events
lines-dispatched (takes_events ∷ events) = lines-dispatched events
lines-dispatched (takes_file ∷ events) = lines-dispatched events
lines-dispatched (takes ∷ events) = lines-dispatched events

-- a line that is handed over is the last one
only_one : (events : List Event) (line : List ℕ) → length (line ∷ lines_dispatched events dispatched) ≤ 1
only_one events line = subst (λ rest. length (line ∷ rest) ≤ 1) (sym (lines-dispatched events)) (omega arith)

-- a line that is taken if it fits is handed over at most once, if it is so where it is still queued
once_if : (fits : Bool) (events : List Event) (line : List ℕ) → length (lines_dispatched events (queued line)) ≤ 1
    → length (listed (line_if fits (queued line)) ++ lines_dispatched events (after_take_if fits (queued line))) ≤ 1
once_if true events line h = only_one events line
once_if false events line h = h

-- a queued line is handed over at most once
pub lines-queued : (events : List Event) (line : List ℕ) → length (lines_dispatched events (queued line)) ≤ 1
lines-queued [] line = omega arith
lines-queued (queues other ∷ events) line = lines-queued events line
lines-queued (takes_query query ∷ events) line =
    once_if (has_query query (queued line)) events line (lines-queued events line)
lines-queued (takes_call ∷ events) line = once_if (has_call (queued line)) events line (lines-queued events line)
lines-queued (takes_names ∷ events) line = once_if (has_names_line (queued line)) events line (lines-queued events line)
lines-queued (takes_events ∷ events) line =
    once_if (has_events_line (queued line)) events line (lines-queued events line)
lines-queued (takes_file ∷ events) line = once_if (has_file_line (queued line)) events line (lines-queued events line)
lines-queued (takes ∷ events) line = only_one events line

pub lines-reading : (events : List Event) → length (lines_dispatched events reading) ≤ 1
lines-reading [] = omega arith
lines-reading (queues line ∷ events) = lines-queued events line
lines-reading (takes_query query ∷ events) = lines-reading events
lines-reading (takes_call ∷ events) = lines-reading events
lines-reading (takes_names ∷ events) = lines-reading events
lines-reading (takes_events ∷ events) = lines-reading events
lines-reading (takes_file ∷ events) = lines-reading events
lines-reading (takes ∷ events) = lines-reading events
