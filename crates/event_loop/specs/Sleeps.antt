-- For how long the lanes of a bridge may sleep while its desk has no members (own). Lengths are in nanoseconds.
use Rattle.std.specs.Prelude.{ℕ, ◌+◌, ◌*◌}
use Rattle.udp_wire.specs.Pacing.{tick_gap, most_ticks}

-- For how long ticks find samples in a jitter buffer that is given no more: a second at most. Samples that reach
-- further ahead begin it anew (`is_reset` of playout).
abbrev pub samples_last : ℕ
samples_last = 1000000000

-- For how long lanes are still woken in each round once the desk has no members: until no samples wait, also where the
-- ticks that are made up for came late.
abbrev pub awake_for : ℕ
awake_for = samples_last + most_ticks * tick_gap

-- for how long lanes may sleep from then on: 500 ms, which are 25 ticks
abbrev pub asleep_for : ℕ
asleep_for = 500000000
