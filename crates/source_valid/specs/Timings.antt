-- Interarrival jitter (RFC 3550 A.8).
use Rattle.std.specs.Prelude.{ℕ, ◌+◌, ◌-◌, ◌/◌, ◌^◌, ◌%◌, min, None, Some}
use Rattle.source_valid.specs.declared.timing.Timing.{Timing}

-- nothing has arrived
abbrev pub untimed : Timing
untimed = record { transit = None; jitter = 0 }

-- arrival units less the timestamp, in 32 bits
abbrev pub transit_of : ℕ → ℕ → ℕ
transit_of ts units = (units + (2 ^ 32 - ts)) % 2 ^ 32

-- how far apart two transit times are, the short way round
abbrev pub apart : ℕ → ℕ → ℕ
apart t u = min ((u + (2 ^ 32 - t)) % 2 ^ 32) ((t + (2 ^ 32 - u)) % 2 ^ 32)

-- the jitter (in sixteenths) after a transit time; the first one only is remembered (own)
abbrev pub jitter_after : Timing → ℕ → ℕ
jitter_after t transit =
    elim t.transit [ None ↦ t.jitter | Some before ↦ t.jitter + apart before transit - (t.jitter + 8) / 16 ]

-- after an accepted packet's timestamp and arrival
abbrev pub timed : Timing → ℕ → ℕ → Timing
timed t ts units = record { transit = Some (transit_of ts units); jitter = jitter_after t (transit_of ts units) }
