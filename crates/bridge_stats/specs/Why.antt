-- Why a source isn't heard, as its line tells it (own).
use Rattle.std.specs.Prelude.{ℕ, ◌*◌, ◌/◌, max, nat_eq, if◌then◌else◌, List, [], ◌∷◌, codes, Option, None, Some}
use Rattle.ingress.specs.declared.reception.Reception.{Reception}
use Rattle.bridge_stats.specs.declared.numbers.SourceNumbers.{SourceNumbers}
use Rattle.bridge_stats.specs.Counts.{so_many}
use Rattle.bridge_stats.specs.Text.{LinePart, words, number, no_word}

-- a payload type, where one came
abbrev pub type_part : Option ℕ → LinePart
type_part None = no_word
type_part (Some pt) = number pt

-- so many samples of a source in whole milliseconds
abbrev pub silent_ms : (samples : ℕ) → Reception → ℕ
silent_ms samples reception = so_many (samples * 1000) / max reception.rate 1

-- for how many milliseconds of its sound a source has been silent, where a sample has come
abbrev pub silent_part : Option Reception → (samples silent : ℕ) → LinePart
silent_part None samples silent = no_word
silent_part (Some reception) samples silent =
    if nat_eq samples 0 then no_word else number (silent_ms silent reception)

-- why packets of a source were dropped, the payload type of the last bad payload, and for how long the source has been
-- silent, each number behind its word
abbrev pub why_parts : Option Reception → SourceNumbers → List LinePart
why_parts reception numbers =
    words (codes "bad-payload") ∷ number numbers.drops.bad_payload
    ∷ words (codes "bad-type") ∷ type_part numbers.drops.bad_type
    ∷ words (codes "spent") ∷ number numbers.drops.spent ∷ words (codes "probation") ∷ number numbers.drops.probation
    ∷ words (codes "jump") ∷ number numbers.drops.jump
    ∷ words (codes "silent") ∷ silent_part reception numbers.samples numbers.silent ∷ []
