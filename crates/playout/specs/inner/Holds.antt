-- How what is kept of a playout stands to the playout.
use Rattle.std.specs.Prelude.{◌≡◌, ℕ, ℤ, ◌≤◌, ◌%◌, ◌^◌, Bool, true, false, List, length, Option, None, Some}
use Rattle.playout.specs.declared.placed.PlacedSamples.{PlacedSamples}
use Rattle.playout.specs.declared.tally.SoundTally.{SoundTally}
use Rattle.playout.specs.Playout.{Play}
use Rattle.playout.specs.Calls.{play_put, play_taken, answer_of, PlaysOut, at_rate}
use Rattle.playout.specs.inner.Agrees.{Agrees, IsBlank}

-- whether a put has come, the timestamp of the next sample, and the samples from there on for one second
pub record PlayoutOf : Type 0 where
  pub begun : Bool
  pub position : ℕ
  pub cells : List (Option ℤ)

-- what is kept of a source: its playout, and what is counted of its sound
pub record SourceOf : Type 0 where
  pub playout : PlayoutOf
  pub tally : SoundTally

-- Nothing is held before the first put; then a second's places, the position modulo 2^32, and what is there from it on.
abbrev pub Holds : PlayoutOf → Option Play → Type 0
Holds held None = held.begun ≡ false
Holds held (Some play) =
    (held.begun ≡ true) × (play.rate ≡ length held.cells) × (play.position % 2 ^ 32 ≡ held.position)
    × (2 ^ 31 ≤ play.position)
    × Agrees held.cells play.pairs play.position

-- There are the places of a second, 50 to 48,000, and no sample before the first put.
pub record IsSound (begun : Bool) (cells : List (Option ℤ)) : Type 0 where
  pub least : 50 ≤ length cells
  pub most : length cells ≤ 48000
  pub blank : begun ≡ false → IsBlank cells

-- Whatever playout the old one holds, this becomes of one more put at its rate, and the new one holds what the put
-- makes of it.
abbrev pub Puts : PlayoutOf → PlayoutOf → ℕ → List ℤ → PlacedSamples → Type 0
Puts old new ts samples placed =
    (play : Option Play) → Holds old play
    → (placed ≡ answer_of play ts samples) × Holds new (Some (play_put (length old.cells) play ts samples))

-- Whatever playout it holds, these are the next samples, and so many of them were there.
abbrev pub Shows : PlayoutOf → List ℤ → ℕ → Type 0
Shows held out count = (play : Option Play) → Holds held play → PlaysOut play out count

-- Whatever playout it holds, these are the next samples, if it has this rate, and so many of them were there. Else they
-- are zeros.
abbrev pub ShowsAt : PlayoutOf → ℕ → List ℤ → ℕ → Type 0
ShowsAt held rate out count = (play : Option Play) → Holds held play → PlaysOut (at_rate rate play) out count

-- Whatever playout the old one holds, the new one holds what this take makes of it.
abbrev pub HasTaken : PlayoutOf → PlayoutOf → ℕ → Type 0
HasTaken old new count = (play : Option Play) → Holds old play → Holds new (play_taken count play)
