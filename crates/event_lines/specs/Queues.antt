-- Events that wait for the thread that writes lines (own).
use Rattle.std.specs.Prelude.{ℕ, ◌+◌, ◌-◌, ◌^◌, min, nat_lt, if◌then◌else◌, List, [], ◌∷◌, ◌++◌, length}
use Rattle.event_lines.specs.declared.event.Event.{Event}

-- how many events wait at most
abbrev pub most_waiting : ℕ
most_waiting = 64

-- The events that wait, oldest first, and how many were lost since that was asked last.
pub record QueueOf : Type 0 where
  pub waiting : List Event
  pub lost : ℕ

-- nothing waits, and nothing was lost
abbrev pub no_events : QueueOf
no_events = record { waiting = []; lost = 0 }

-- one more event: it waits, or is counted as lost where too many wait
abbrev pub with_event : Event → QueueOf → QueueOf
with_event event queue =
    if nat_lt (length queue.waiting) most_waiting
    then record queue { waiting = queue.waiting ++ event ∷ [] }
    else record queue { lost = min (queue.lost + 1) (2 ^ 64 - 1) }
