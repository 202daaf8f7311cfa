-- Two far numbers in a row initialise the source at the second one (RFC 3550 A.1, bad_seq).
use Rattle.std.specs.Prelude.{◌≡◌, ℕ, ◌-◌, ◌≤◌, ◌^◌, [], ◌∷◌, fold}
use Rattle.source_valid.specs.declared.verdict.Verdict.TheVariants.{Jump}
use Rattle.source_valid.specs.Stretches.{Stretch, begun, following, distance, greatest_of, verdict_in, max_misorder}
use Rattle.source_valid.specs.Histories.{Valid, after_number}

-- A number that is too far off leaves all that was accepted as it is; the one after it, where it is far off too, is
-- where the source begins anew.
abbrev pub Restarts : Type 0
Restarts =
    (s : Stretch) (n : ℕ) → verdict_in s n ≡ Jump → distance (greatest_of s) (following n) ≤ 2 ^ 16 - max_misorder
    → fold after_number (Valid s) (n ∷ following n ∷ []) ≡ Valid (begun (following n))
