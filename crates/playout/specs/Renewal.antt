-- When the jitter buffer of a source begins anew because its sound is late, or because too much of it waits (own).
use Rattle.std.specs.Prelude.{ℕ, ℤ, ◌+◌, ◌-◌, ◌*◌, ◌/◌, min, Bool, true, false, ◌||◌, if◌then◌else◌, nat_lt, nat_le}
use Rattle.std.specs.Prelude.{List, length, Option, None, Some}
use Rattle.playout.specs.declared.offset.Offset.{Offset}
use Rattle.playout.specs.declared.tally.SoundTally.{SoundTally}
use Rattle.playout.specs.Playout.{Play, is_reset, place_of, begun_by}
use Rattle.playout.specs.Calls.{play_put, play_ticked, at_rate}

-- a late sample counts as much as this many samples in time
abbrev pub late_weight : ℕ
late_weight = 1000

-- how much late sound begins a buffer anew: 300 ms
abbrev pub late_span : ℕ → ℕ
late_span rate = rate * 300 / 1000

-- how much sound may wait: 120 ms
abbrev pub full_depth : ℕ → ℕ
full_depth rate = rate * 120 / 1000

-- for how much of the source's sound more may wait: 20 s
abbrev pub full_span : ℕ → ℕ
full_span rate = rate * 20

-- nothing is counted
abbrev pub no_tally : SoundTally
no_tally = record { late = 0; full = 0 }

-- how far the place of a timestamp is from the position. What lies ahead waits: it is there to be taken before the
-- samples of this timestamp.
abbrev pub offset_of : ℕ → ℕ → Offset
offset_of position ts = record { ahead = place_of position ts - position; behind = position - place_of position ts }

-- how many of so many samples are late: those whose places are below the position
abbrev pub late_among : ℕ → Offset → ℕ
late_among count offset = min count offset.behind

-- the tally with so many samples more. Each late sample adds its weight, and each sample in time takes 1 away. A put
-- that does not find too much waiting ends the full sound.
abbrev pub tallied : ℕ → SoundTally → Offset → ℕ → SoundTally
tallied rate tally offset count = record {
  late = tally.late + late_weight * late_among count offset - (count - late_among count offset);
  full = if nat_lt (full_depth rate) offset.ahead then tally.full + count else 0;
}

-- The sound was late for too long, or full for too long.
abbrev pub is_overdue : ℕ → SoundTally → Bool
is_overdue rate tally = nat_le (late_weight * late_span rate) tally.late || nat_le (full_span rate) tally.full

-- the tally after a put on this playout. Where the playout begins by the put, nothing is counted.
abbrev pub tally_after : Option Play → SoundTally → ℕ → List ℤ → SoundTally
tally_after None tally ts samples = no_tally
tally_after (Some play) tally ts samples =
    if is_reset play.rate play.position (place_of play.position ts) (length samples) then no_tally
    else tallied play.rate tally (offset_of play.position ts) (length samples)

-- a source: its playout, what is counted of its sound, and whether its playout begins anew by that
pub record SourcePlay : Type 0 where
  pub play : Option Play
  pub tally : SoundTally
  pub renews : Bool

-- a source without samples
abbrev pub no_sound : Bool → SourcePlay
no_sound renews = record { play = None; tally = no_tally; renews = renews }

-- a source after a put at this rate that leads to this tally. Where that is overdue, the playout begins anew, as by a
-- first put.
abbrev pub renewing_put : ℕ → Option Play → SoundTally → ℕ → List ℤ → SourcePlay
renewing_put rate play tally ts samples =
    if is_overdue rate tally then record { play = Some (begun_by rate ts samples); tally = no_tally; renews = true }
    else record { play = Some (play_put rate play ts samples); tally = tally; renews = true }

-- a source after one more put. Nothing is counted where its playout does not begin anew by it.
abbrev pub source_put : ℕ → SourcePlay → ℕ → List ℤ → SourcePlay
source_put rate s ts samples =
    if s.renews then renewing_put rate s.play (tally_after (at_rate rate s.play) s.tally ts samples) ts samples
    else record { play = Some (play_put rate s.play ts samples); tally = no_tally; renews = false }

-- a source after a take of 20 ms
abbrev pub source_ticked : SourcePlay → SourcePlay
source_ticked s = record { play = play_ticked s.play; tally = s.tally; renews = s.renews }
