-- How many lines are written in a second, and what becomes of the events that have none (own).
use Rattle.std.specs.Prelude.{ℕ, ◌+◌, ◌-◌, ◌^◌, ◌≤◌, Bool, true, false, ◌&&◌, nat_lt, nat_le, List, [], ◌∷◌, length}
use Rattle.std.specs.Prelude.{filter}

-- how many nanoseconds a second has
abbrev pub second : ℕ
second = 1000000000

-- how many lines are written in a second at most
abbrev pub most_lines : ℕ
most_lines = 10

-- the most events that are counted
abbrev pub most_events : ℕ
most_events = 2 ^ 64 - 1

-- what became of an event, or of several
pub data LineAnswer : Type 0 where
  -- its line was written at this moment
  wrote : ℕ → LineAnswer
  -- this many events were left without a line
  left : ℕ → LineAnswer
  -- a line was written at this moment that told of so many events without a line
  told : ℕ → ℕ → LineAnswer

-- the moments of all lines that were written, oldest first
abbrev pub moments : List LineAnswer → List ℕ
moments [] = []
moments (wrote at ∷ later) = at ∷ moments later
moments (left events ∷ later) = moments later
moments (told at events ∷ later) = at ∷ moments later

-- how many events were left without a line
abbrev pub left_events : List LineAnswer → ℕ
left_events [] = 0
left_events (wrote at ∷ later) = left_events later
left_events (left events ∷ later) = events + left_events later
left_events (told at events ∷ later) = left_events later

-- how many of these a line told
abbrev pub told_events : List LineAnswer → ℕ
told_events [] = 0
told_events (wrote at ∷ later) = told_events later
told_events (left events ∷ later) = told_events later
told_events (told at events ∷ later) = events + told_events later

-- a moment is in the second that begins at another
abbrev pub is_within : (from at : ℕ) → Bool
is_within from at = nat_le from at && nat_lt (at - from) second

-- no second has more lines than it may
abbrev pub AreFew : List ℕ → Type 0
AreFew lines = (from : ℕ) → length (filter (is_within from) lines) ≤ most_lines

-- a line is less than a second old at a moment
abbrev pub is_recent : (now at : ℕ) → Bool
is_recent now at = nat_lt (now - at) second

-- a line may be written at a moment: fewer than so many are less than a second old
abbrev pub has_room : ℕ → List LineAnswer → Bool
has_room now answers = nat_lt (length (filter (is_recent now) (moments answers))) most_lines

-- what becomes of an event at a moment, if a line may be written, and if not
abbrev pub answer_at : Bool → ℕ → LineAnswer
answer_at true now = wrote now
answer_at false now = left 1

-- What a budget answered, oldest first, the latest moment that it was told, and how many events without a line wait to
-- be told.
pub record BudgetOf : Type 0 where
  pub answers : List LineAnswer
  pub latest : ℕ
  pub untold : ℕ
