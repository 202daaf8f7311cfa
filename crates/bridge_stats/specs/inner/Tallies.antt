-- What is kept of each kind, by its place.
use Rattle.std.specs.Prelude.{◌≡◌, ℕ, ◌<◌, nat_eq, if◌then◌else◌, List, length, slice_index, sum_by}
use Rattle.bridge_stats.specs.declared.taken.TakenIn.{TakenIn}
use Rattle.ingress.specs.Outcomes.{outcome_kind}
use Rattle.bridge_stats.specs.Kinds.{kinds, line_place}
use Rattle.bridge_stats.specs.Counts.{so_many}

-- what those whose kind has this place come to
abbrev pub sum_at : (TakenIn → ℕ) → ℕ → List TakenIn → ℕ
sum_at size place all =
    sum_by (λ taken. if nat_eq (line_place (outcome_kind taken.outcome)) place then size taken else 0) all

-- Each place has what those of its kind come to.
pub record AreSums (size : TakenIn → ℕ) (sums : List ℕ) (all : List TakenIn) : Type 0 where
  pub long : length sums ≡ kinds
  pub each : (place : ℕ) → place < kinds → slice_index sums place ≡ so_many (sum_at size place all)

abbrev pub one : TakenIn → ℕ
one taken = 1

abbrev pub its_octets : TakenIn → ℕ
its_octets taken = taken.octets
