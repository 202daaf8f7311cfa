-- The moment of a sender report, by the wall clock and by the stream's (RFC 3550 sections 4 and 6.4.1).
use Rattle.std.specs.Prelude.{ℕ, ◌+◌, ◌-◌, ◌*◌, ◌/◌, ◌%◌, ◌^◌}
use Rattle.forward_rewrite.specs.declared.counts.Counts.{Counts}

-- the nanoseconds of a second
abbrev pub second : ℕ
second = 10 ^ 9

-- the nanoseconds of a microsecond
abbrev pub microsecond : ℕ
microsecond = 10 ^ 3

-- the microseconds of a second
abbrev pub second_in_microseconds : ℕ
second_in_microseconds = 10 ^ 6

-- the seconds from 1900, from which NTP counts, to 1970, from which moments count (RFC 5905 section 6)
abbrev pub from_1900_to_1970 : ℕ
from_1900_to_1970 = 2208988800

-- the NTP timestamp of a moment: 32 bits of seconds since 1900, which begin anew in 2036, and 32 bits of the fraction
-- of a second
abbrev pub ntp_of : ℕ → ℕ
ntp_of moment = (moment / second + from_1900_to_1970) % 2 ^ 32 * 2 ^ 32 + moment % second * 2 ^ 32 / second

-- the whole microseconds from one moment to another, none where that is earlier
abbrev pub elapsed : ℕ → ℕ → ℕ
elapsed from to = (to - from) / microsecond

-- the RTP timestamp of a moment: that of the stream's last frame or tick, advanced by the time that has gone by since,
-- at the stream's rate
abbrev pub ts_at : Counts → ℕ → ℕ
ts_at c moment = (c.ts + elapsed c.moment moment * c.rate / second_in_microseconds) % 2 ^ 32
