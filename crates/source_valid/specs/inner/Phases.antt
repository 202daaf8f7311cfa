-- How the code's phase stands to a source.
use Rattle.std.specs.Prelude.{◌≡◌, Bool, true, false}
use Rattle.source_valid.specs.declared.phase.Phase.{Phase}
use Rattle.source_valid.specs.declared.phase.Phase.TheVariants.{OnProbation, Counting}
use Rattle.source_valid.specs.Histories.{Standing, Unheard, Waiting, Valid}
use Rattle.source_valid.specs.inner.Stands.{Stands, Sound}

abbrev pub InPhase : Standing → Phase → Type 0
InPhase Unheard p = ⊥
InPhase (Waiting last) (OnProbation m) = m ≡ last
InPhase (Waiting last) (Counting c) = ⊥
InPhase (Valid s) (OnProbation m) = ⊥
InPhase (Valid s) (Counting c) = Stands s c

abbrev pub SoundPhase : Phase → Type 0
SoundPhase (OnProbation m) = Unit {0}
SoundPhase (Counting c) = Sound c

abbrev pub is_counting : Phase → Bool
is_counting (OnProbation m) = false
is_counting (Counting c) = true
