-- The clock rate of video; those of audio are its formats'.
use Rattle.std.specs.Prelude.{ℕ}

-- the clock rate of video in Hz (RFC 3551 section 5)
abbrev pub video_rate : ℕ
video_rate = 90000
