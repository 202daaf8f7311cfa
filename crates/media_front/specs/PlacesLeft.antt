-- How many places of a lane's ring an item leaves free for others (own).
use Rattle.std.specs.Prelude.{ℕ}
use Rattle.media_items.specs.Inputs.{Input, frame, audio, tick, nack, block, pli, report, renew}

-- how many of a ring's 1,024 places a NACK, a report block or a PLI leaves free: a half
abbrev pub left_by_requests : ℕ
left_by_requests = 512

-- how many a frame or sound leaves free: more than the 50 ticks and the report that one round gives at most
abbrev pub left_by_media : ℕ
left_by_media = 64

-- How many an item leaves free. What members ask for and report leaves places for frames and sound, and these leave
-- places for ticks and the bridge's own reports, which take the last ones. That buffers begin anew takes one too.
abbrev pub places_left : Input → ℕ
places_left (nack request) = left_by_requests
places_left (block told) = left_by_requests
places_left (pli loss) = left_by_requests
places_left (frame f) = left_by_media
places_left (audio sound) = left_by_media
places_left (tick moment) = 0
places_left (report moment) = 0
places_left renew = 0
