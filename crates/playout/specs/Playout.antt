-- A jitter buffer of samples: a position that never wraps, and samples at places (own).
use Rattle.std.specs.Prelude.{◌≡◌, ℕ, ℤ, pos, ◌+◌, ◌-◌, ◌<◌, ◌%◌, ◌^◌, ◌/◌, ◌*◌, Bool, ◌||◌, if◌then◌else◌, nat_eq}
use Rattle.std.specs.Prelude.{nat_lt, nat_le, is_some, zero, suc, List, [], ◌∷◌, ◌++◌, length, Option, None, Some}
use Rattle.std.specs.Prelude.{unwrap_or, slice_index_or}
use Rattle.playout.specs.declared.placed.PlacedSamples.{PlacedSamples}
use Rattle.playout.specs.declared.placed.PlacedSamples.TheVariants.{Kept, Late, Reset}

-- a sample at a place; places are timestamps that don't wrap
pub record Pair : Type 0 where
  pub place : ℕ
  pub sample : ℤ

-- the sample of this place, if it has one
abbrev pub sample_at : List Pair → ℕ → Option ℤ
sample_at [] place = None
sample_at (pair ∷ pairs) place = if nat_eq pair.place place then Some pair.sample else sample_at pairs place

-- Those below the position are left out, and a place that has a sample keeps it.
abbrev pub offer : ℕ → List Pair → ℕ → ℤ → List Pair
offer position pairs place sample =
    if nat_lt place position || is_some (sample_at pairs place)
    then pairs
    else pairs ++ record { place = place; sample = sample } ∷ []

-- the samples at this place onward
abbrev pub offers : ℕ → List Pair → ℕ → List ℤ → List Pair
offers position pairs place [] = pairs
offers position pairs place (sample ∷ samples) = offers position (offer position pairs place sample) (place + 1) samples

-- the samples a second, the place of the next sample to take, and the samples that are there
pub record Play : Type 0 where
  pub rate : ℕ
  pub position : ℕ
  pub pairs : List Pair

-- the place nearest to the position whose timestamp this is
abbrev pub place_of : ℕ → ℕ → ℕ
place_of position ts = position + (ts + 2 ^ 31 + 2 ^ 32 - position % 2 ^ 32) % 2 ^ 32 - 2 ^ 31

-- how many places 60 ms are
abbrev pub delay : ℕ → ℕ
delay rate = rate * 60 / 1000

-- begun by a put at this timestamp: 60 ms before it, one turn up so that no place is below 0
abbrev pub begun_by : ℕ → ℕ → List ℤ → Play
begun_by rate ts samples = record {
  rate = rate;
  position = ts + 2 ^ 32 - delay rate;
  pairs = offers (ts + 2 ^ 32 - delay rate) [] (ts + 2 ^ 32) samples;
}

-- The samples from this place on go beyond a second after the position, or begin more than that before it.
abbrev pub is_reset : ℕ → ℕ → ℕ → ℕ → Bool
is_reset rate position place count = nat_lt (position + rate) (place + count) || nat_lt (place + rate) position

-- what becomes of a put after the first
abbrev pub placed_of : ℕ → ℕ → List Pair → ℕ → List ℤ → PlacedSamples
placed_of rate position pairs ts samples =
    if is_reset rate position (place_of position ts) (length samples) then Reset
    else if nat_le (place_of position ts + length samples) position then Late
    else Kept (length (offers position pairs (place_of position ts) samples) - length pairs)

-- the pairs after it, where it is no Reset
abbrev pub pairs_after : ℕ → ℕ → List Pair → ℕ → List ℤ → List Pair
pairs_after rate position pairs ts samples =
    if is_reset rate position (place_of position ts) (length samples) then pairs
    else if nat_le (place_of position ts + length samples) position then pairs
    else offers position pairs (place_of position ts) samples

-- how many of so many places from the position on have a sample
abbrev pub present : List Pair → ℕ → ℕ → ℕ
present pairs position zero = 0
present pairs position (suc n) = present pairs position n + (if is_some (sample_at pairs (position + n)) then 1 else 0)

-- These are the samples from the position on, 0 where there is none.
abbrev pub AreTaken : List Pair → ℕ → List ℤ → Type 0
AreTaken pairs position out =
    (i : ℕ) → i < length out → slice_index_or out i (pos 0) ≡ unwrap_or (sample_at pairs (position + i)) (pos 0)
