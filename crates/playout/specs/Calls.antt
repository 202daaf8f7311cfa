-- What a put and a take do to a playout, and what they answer (own).
use Rattle.std.specs.Prelude.{◌≡◌, ℕ, ℤ, ◌+◌, ◌/◌, if◌then◌else◌, nat_eq, List, [], length, Option, None, Some}
use Rattle.playout.specs.declared.placed.PlacedSamples.{PlacedSamples}
use Rattle.playout.specs.declared.placed.PlacedSamples.TheVariants.{Kept}
use Rattle.playout.specs.Playout.{Play, begun_by, is_reset, place_of, placed_of, pairs_after, present, AreTaken}

-- a playout that has begun, after one more put at its rate: too far from its position, it begins anew as by a first put
abbrev pub put_after : Play → ℕ → List ℤ → Play
put_after play ts samples =
    if is_reset play.rate play.position (place_of play.position ts) (length samples) then begun_by play.rate ts samples
    else record {
      rate = play.rate;
      position = play.position;
      pairs = pairs_after play.rate play.position play.pairs ts samples;
    }

-- the playout after a put at this rate: it begins anew if there was none, or one of another rate
abbrev pub play_put : ℕ → Option Play → ℕ → List ℤ → Play
play_put rate None ts samples = begun_by rate ts samples
play_put rate (Some play) ts samples =
    if nat_eq play.rate rate then put_after play ts samples else begun_by rate ts samples

-- the playout after a take of this many samples. Before the first put there is none.
abbrev pub play_taken : ℕ → Option Play → Option Play
play_taken count None = None
play_taken count (Some play) = Some (record { rate = play.rate; position = play.position + count; pairs = play.pairs })

-- how many samples 20 ms are
abbrev pub tick_samples : ℕ → ℕ
tick_samples rate = rate / 50

-- what 20 ms make of a playout
abbrev pub play_ticked : Option Play → Option Play
play_ticked None = None
play_ticked (Some play) = play_taken (tick_samples play.rate) (Some play)

-- the answer to a put at the playout's rate: the first one is kept whole
abbrev pub answer_of : Option Play → ℕ → List ℤ → PlacedSamples
answer_of None ts samples = Kept (length samples)
answer_of (Some play) ts samples = placed_of play.rate play.position play.pairs ts samples

-- These are the next samples of a playout, and this many of them are present. Before the first put they are zeros, and
-- none is present.
abbrev pub PlaysOut : Option Play → List ℤ → ℕ → Type 0
PlaysOut None out count = AreTaken [] 0 out × (count ≡ 0)
PlaysOut (Some play) out count =
    AreTaken play.pairs play.position out × (count ≡ present play.pairs play.position (length out))

-- the playout, if it has this rate
abbrev pub at_rate : ℕ → Option Play → Option Play
at_rate rate None = None
at_rate rate (Some play) = if nat_eq play.rate rate then Some play else None
