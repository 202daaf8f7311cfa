-- What a mixer keeps, and what it answers by all that it was given (own).
use Rattle.std.specs.Prelude.{◌≡◌, ℕ, true, nat_eq, List, [], ◌∷◌, ◌++◌, map, Option}
use Rattle.std.specs.Map.{lookup}
use Rattle.desk_rows.specs.Desk.{Desk}
use Rattle.playout.specs.Playouts.{PlayoutsOf, Has}
use Rattle.forward_rewrite.specs.Mixes.{MixOf}
use Rattle.media_items.specs.OwnStreams.{is_mine}
use Rattle.mixer.specs.Hearing.{Given, tick, to_playouts}
use Rattle.mixer.specs.Mixes.{MixSent, turns, stream_of, sent_by, lanes_own}

-- the playouts of all sources, and the mix streams that have begun by their SSRC
pub record MixerOf : Type 0 where
  pub playouts : PlayoutsOf
  pub streams : List (ℕ × MixOf)

-- the stream with this SSRC, if it has begun
abbrev pub mix_at : ℕ → List (ℕ × MixOf) → Option MixOf
mix_at ssrc streams = lookup (nat_eq ssrc) streams

-- The mixer of this lane, of so many, has been given all this: the playouts have it, and each stream of the lane stands
-- as it leaves it.
pub record WasGiven (lane lanes : ℕ) (mixer : MixerOf) (given : List Given) : Type 0 where
  pub playouts : Has mixer.playouts (map to_playouts given)
  pub streams : (ssrc : ℕ) → is_mine lane lanes ssrc ≡ true
      → mix_at ssrc mixer.streams ≡ stream_of ssrc (turns ssrc given)

-- Whatever the old mixer was given, the new one was given this too.
abbrev pub IsGiven : MixerOf → MixerOf → Given → Type 0
IsGiven old new next =
    (lane lanes : ℕ) (before : List Given) → WasGiven lane lanes old before
    → WasGiven lane lanes new (before ++ next ∷ [])

-- Whatever the old mixer was given, this is what the lane sends at one more tick, and the new one was given it too.
abbrev pub Ticks : ℕ → ℕ → MixerOf → MixerOf → Desk → ℕ → List MixSent → Type 0
Ticks lane lanes old new desk moment sent =
    (before : List Given) → WasGiven lane lanes old before →
    (sent ≡ lanes_own lane lanes (sent_by before desk moment))
    × WasGiven lane lanes new (before ++ tick desk moment ∷ [])
