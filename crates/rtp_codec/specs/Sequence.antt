-- RTP sequence numbers: 16 bits that wrap round (RFC 3550 section 5.1).
use Rattle.std.specs.Prelude.{ℕ, ◌+◌, ◌-◌, ◌%◌, ◌^◌}

-- the number behind this one
abbrev pub next : ℕ → ℕ
next seq = (seq + 1) % 2 ^ 16

-- the steps forward from one number to another
abbrev pub distance : ℕ → ℕ → ℕ
distance from to = (to + 2 ^ 16 - from) % 2 ^ 16
