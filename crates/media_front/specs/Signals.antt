-- For what the signals of lanes are raised (own).
use Rattle.std.specs.Prelude.{ℕ, Bool, true, false}
use Rattle.media_items.specs.Inputs.{Input, frame, audio, tick, nack, block, pli, report, renew}

-- A lane is woken at once for this input. Sound waits for the next tick: until then it only fills a jitter buffer.
abbrev pub is_pressing : Input → Bool
is_pressing (audio sound) = false
is_pressing (frame f) = true
is_pressing (tick moment) = true
is_pressing (nack request) = true
is_pressing (block told) = true
is_pressing (pli loss) = true
is_pressing (report moment) = true
is_pressing renew = true

-- so many parcels wake a lane, whatever they are: a quarter of its ring
abbrev pub many_parcels : ℕ
many_parcels = 256
