-- When a connection waits for its socket (own).
use Rattle.std.specs.Prelude.{ℕ, Bool, true, false, ◌&&◌, ◌||◌, if◌then◌else◌}
use Rattle.operator_connection.specs.declared.readiness.Readiness.{Readiness}
use Rattle.operator_connection.specs.declared.talking.Came.{Came}
use Rattle.operator_connection.specs.declared.talking.Came.TheVariants as came

-- after the system's events, if there are any, a socket may be read and written
abbrev pub after_events : Bool → Readiness → Readiness
after_events true before = record { readable = true; writable = true }
after_events false before = before

-- a socket that had nothing, or took nothing, may not be tried again before the system reports more
abbrev pub not_after : Came → Bool → Bool
not_after (came.Octets n) before = before
not_after came.End before = before
not_after came.Later before = false
not_after came.Again before = before
not_after came.Failed before = before

-- how many milliseconds a round waits at most
abbrev pub round_wait : ℕ
round_wait = 50

-- the same of a connection that reads, or has something to write: none while its socket may do that
abbrev pub longest_wait : Readiness → (reads writes : Bool) → ℕ
longest_wait ready reads writes = if (ready.readable && reads) || (ready.writable && writes) then 0 else round_wait
