-- When ticks and reports are due (own). Moments are nanoseconds since 1970.
use Rattle.std.specs.Prelude.{ℕ, ◌+◌, ◌-◌, ◌*◌, ◌/◌, Bool, if◌then◌else◌, nat_le, nat_lt, Option, Some, None, max}
use Rattle.udp_wire.specs.declared.pacing.Ticks.{Ticks}
use Rattle.udp_wire.specs.declared.pacing.ReportTimer.{ReportTimer}

-- how many nanoseconds lie between two ticks: 20 ms
abbrev pub tick_gap : ℕ
tick_gap = 20000000

-- the most ticks that are made up for
abbrev pub most_ticks : ℕ
most_ticks = 50

-- how many whole 20 ms have passed since the start
abbrev pub passed : Ticks → (now : ℕ) → ℕ
passed ticks now = (now - ticks.start) / tick_gap

-- a whole 20 ms has had no tick
abbrev pub is_behind : Ticks → (now : ℕ) → Bool
is_behind ticks now = nat_lt ticks.had (passed ticks now)

-- the first of the last 50 whole 20 ms that has had none
abbrev pub next_tick : Ticks → (now : ℕ) → ℕ
next_tick ticks now = max ticks.had (passed ticks now - most_ticks) + 1

-- the moment of the next tick that is due
abbrev pub tick_due : Ticks → (now : ℕ) → Option ℕ
tick_due ticks now = if is_behind ticks now then Some (ticks.start + next_tick ticks now * tick_gap) else None

-- the ticks behind it
abbrev pub after_tick : Ticks → (now : ℕ) → Ticks
after_tick ticks now = if is_behind ticks now then record { start = ticks.start; had = next_tick ticks now } else ticks

-- how many nanoseconds a millisecond has
abbrev pub millisecond : ℕ
millisecond = 1000000

-- the reports from a start on, with so many milliseconds between two of them
abbrev pub reports_from : (report_ms start : ℕ) → ReportTimer
reports_from report_ms start = record { every = report_ms * millisecond; last = start }

-- whether a report is due: the interval has passed since the last one
abbrev pub report_due : ReportTimer → (now : ℕ) → Bool
report_due timer now = nat_le timer.every (now - timer.last)

-- the reports behind it
abbrev pub after_report : ReportTimer → (now : ℕ) → ReportTimer
after_report timer now = if report_due timer now then record timer { last = now } else timer
