-- How what is counted of a source stands to the source.
use Rattle.std.specs.Prelude.{ℕ, ℤ, ◌≤◌, ◌*◌, Bool, List, length, Option}
use Rattle.playout.specs.declared.offset.Offset.{Offset}
use Rattle.playout.specs.declared.tally.SoundTally.{SoundTally}
use Rattle.playout.specs.Renewal.{SourcePlay, late_weight, late_span, full_span, tallied, is_overdue, source_put}
use Rattle.playout.specs.Renewal.{source_ticked}
use Rattle.playout.specs.Playouts.{Keeps}
use Rattle.playout.specs.inner.Holds.{SourceOf}

-- A tally that is not overdue at any rate up to 48,000 Hz is at most this.
pub record IsSmall (tally : SoundTally) : Type 0 where
  pub late : tally.late ≤ late_weight * late_span 48000
  pub full : tally.full ≤ full_span 48000

-- There are at most 48,000 places, and the tally is small.
pub record IsCounted (cells : List (Option ℤ)) (tally : SoundTally) : Type 0 where
  pub most : length cells ≤ 48000
  pub small : IsSmall tally

-- the tally of what is kept, with these samples
abbrev pub tally_with : SourceOf → Offset → List ℤ → SoundTally
tally_with kept offset samples = tallied (length kept.playout.cells) kept.tally offset (length samples)

-- With these samples it is overdue.
abbrev pub is_due : SourceOf → Offset → List ℤ → Bool
is_due kept offset samples = is_overdue (length kept.playout.cells) (tally_with kept offset samples)

-- Whatever the old one keeps of a source, the new one keeps what the put makes of it.
abbrev pub PutsInto : Bool → SourceOf → SourceOf → ℕ → ℕ → List ℤ → Type 0
PutsInto renews old new rate ts samples =
    (s : SourcePlay) → Keeps renews old s → Keeps renews new (source_put rate s ts samples)

-- Whatever the old one keeps of a source, the new one keeps what a take of 20 ms leaves of it.
abbrev pub HasTicked : SourceOf → SourceOf → Type 0
HasTicked old new = (renews : Bool) (s : SourcePlay) → Keeps renews old s → Keeps renews new (source_ticked s)
