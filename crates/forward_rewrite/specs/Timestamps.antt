-- Timestamps of an outgoing video stream: within a run they keep the distances that the source gave them, and a run
-- begins after a pause as long as the time that went by (RFC 3550 section 5.1; the runs are own).
use Rattle.std.specs.Prelude.{ℕ, ◌+◌, ◌-◌, ◌*◌, ◌/◌, ◌%◌, ◌^◌, Bool, ◌&&◌, if◌then◌else◌, nat_eq, max, List, [], ◌∷◌}
use Rattle.std.specs.Prelude.{◌++◌, map, Option, None, Some}
use Rattle.rtp_codec.specs.Address.{same_address}
use Rattle.media_items.specs.Frame.{SourceFrame}
use Rattle.forward_rewrite.specs.Sending.{Sending}

-- the frames are of one SSRC, address and epoch
abbrev pub same_run : SourceFrame → SourceFrame → Bool
same_run f g = nat_eq f.source g.source && (same_address f.address g.address && nat_eq f.epoch g.epoch)

-- frames in a row that are of one SSRC, address and epoch
pub record Run : Type 0 where
  pub first : Sending
  pub others : List Sending

-- the runs with a frame before them
abbrev pub runs_with : Sending → List Run → List Run
runs_with s [] = record { first = s; others = [] } ∷ []
runs_with s (run ∷ runs) =
    if same_run s.frame run.first.frame
    then record { first = s; others = run.first ∷ run.others } ∷ runs
    else record { first = s; others = [] } ∷ run ∷ runs

-- the frames, cut into maximal runs
abbrev pub runs_of : List Sending → List Run
runs_of [] = []
runs_of (s ∷ sendings) = runs_with s (runs_of sendings)

-- a frame with the timestamp under which it is sent
pub record Stamped : Type 0 where
  pub sending : Sending
  pub ts : ℕ

-- the last of a list that begins with this one
abbrev pub last_or : Stamped → List Stamped → Stamped
last_or x [] = x
last_or x (y ∷ ys) = last_or y ys

-- the last of a list, if it has one
abbrev pub last_of : List Stamped → Option Stamped
last_of [] = None
last_of (x ∷ xs) = Some (last_or x xs)

-- how far the time between two moments takes the timestamp: 90 a millisecond over whole microseconds, and at least 1
abbrev pub pause : ℕ → ℕ → ℕ
pause earlier later = max 1 ((later - earlier) / 1000 * 9 / 100)

-- the timestamp with which a run begins, modulo 2 ^ 32, from the frame before it if there is one
abbrev pub run_start : ℕ → Option Stamped → SourceFrame → ℕ
run_start first_ts None f = first_ts % 2 ^ 32
run_start first_ts (Some before) f = (before.ts + pause before.sending.frame.moment f.moment) % 2 ^ 32

-- how far the second timestamp is from the first, modulo 2 ^ 32
abbrev pub difference : ℕ → ℕ → ℕ
difference from to = (to + (2 ^ 32 - from % 2 ^ 32)) % 2 ^ 32

-- a frame of the run that begins with this timestamp: its distance from the run's first is the source's
abbrev pub stamp_in_run : ℕ → Sending → Sending → Stamped
stamp_in_run start first s =
    record { sending = s; ts = (start + difference first.frame.frame.ts s.frame.frame.ts) % 2 ^ 32 }

-- the frames of runs with their timestamps, after the frame before them
abbrev pub stamped_runs : ℕ → Option Stamped → List Run → List Stamped
stamped_runs first_ts before [] = []
stamped_runs first_ts before (run ∷ runs) =
    let stamped = map (stamp_in_run (run_start first_ts before run.first.frame) run.first) (run.first ∷ run.others) in
    stamped ++ stamped_runs first_ts (last_of stamped) runs

-- the frames with their timestamps, the first of which is given
abbrev pub stamped : ℕ → List Sending → List Stamped
stamped first_ts sendings = stamped_runs first_ts None (runs_of sendings)
