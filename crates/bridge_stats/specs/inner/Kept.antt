-- What is kept of a source.
use Rattle.std.specs.Prelude.{◌≡◌, ℕ, not, if◌then◌else◌, List, [], ◌∷◌, length, count_by, sum_by, fold, Option, None}
use Rattle.std.specs.Prelude.{Some, ℤ}
use Rattle.std.specs.Int.{int_max}
use Rattle.ingress.specs.Outcomes.{is_accepted, is_late, is_duplicate}
use Rattle.bridge_stats.specs.declared.taken.TakenIn.{TakenIn}
use Rattle.bridge_stats.specs.declared.drops.DropNumbers.{DropNumbers}
use Rattle.bridge_stats.specs.declared.stretch.Stretch.{Stretch}
use Rattle.bridge_stats.specs.Counts.{so_many}
use Rattle.bridge_stats.specs.Drops.{drops_of}
use Rattle.bridge_stats.specs.Silence.{silent_in}
use Rattle.bridge_stats.specs.Sources.{numbers_in, last_moment}

-- what is kept of these numbers
abbrev pub IsStretch : Option Stretch → List ℤ → Type 0
IsStretch None [] = Unit {0}
IsStretch None (first ∷ numbers) = ⊥
IsStretch (Some s) [] = ⊥
IsStretch (Some s) (first ∷ numbers) =
    (s.first ≡ first) × (s.greatest ≡ fold int_max first numbers) × (s.received ≡ so_many (length (first ∷ numbers)))

-- the counts of these datagrams of a source, and what is kept of their numbers
pub record AreCounts (packets octets late duplicates dropped last samples energy silent : ℕ) (drops : DropNumbers)
    (stretch : Option Stretch) (all : List TakenIn) : Type 0 where
  pub packets_are : packets ≡ so_many (count_by (λ taken. is_accepted taken.outcome) all)
  pub octets_are : octets ≡ so_many (sum_by (λ taken. if is_accepted taken.outcome then taken.octets else 0) all)
  pub late_are : late ≡ so_many (count_by (λ taken. is_late taken.outcome) all)
  pub duplicates_are : duplicates ≡ so_many (count_by (λ taken. is_duplicate taken.outcome) all)
  pub dropped_are : dropped ≡ so_many (count_by (λ taken. not (is_accepted taken.outcome)) all)
  pub last_is : last ≡ last_moment all
  pub samples_are : samples ≡ so_many (sum_by (λ taken. taken.sound.samples) all)
  pub energy_is : energy ≡ so_many (sum_by (λ taken. taken.sound.energy) all)
  pub silent_is : silent ≡ silent_in all
  pub drops_are : drops ≡ drops_of all
  pub stretch_is : IsStretch stretch (numbers_in all)
