-- What a budget keeps of what it answered.
use Rattle.std.specs.Prelude.{◌≡◌, ℕ, ◌+◌, ◌≤◌, List, length, filter}
use Rattle.event_lines.specs.Lines.{LineAnswer, most_lines, most_events, moments, left_events, told_events, is_recent}
use Rattle.event_lines.specs.Lines.{AreFew}

-- It has memory for the lines of a second. From its latest moment on it has each line that is less than a second old,
-- no second has had too many, and it counts the events that no line told of.
pub record IsKept (recent : List ℕ) (capacity : ℕ) (answers : List LineAnswer) (latest untold : ℕ) : Type 0 where
  pub memory : most_lines ≤ capacity
  pub short : length recent ≤ most_lines
  pub recent_is : (now : ℕ) → latest ≤ now → filter (is_recent now) (moments answers) ≡ filter (is_recent now) recent
  pub few : AreFew (moments answers)
  pub counted : left_events answers ≤ most_events → left_events answers ≡ told_events answers + untold
