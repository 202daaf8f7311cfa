-- How far a source has come by numbers in a row, and by arrivals in a row.
use Rattle.std.proofs.Common.{◌≡◌, ℕ, ◌+◌, ◌-◌, ◌^◌, ◌%◌, List, [], ◌∷◌, ◌++◌, map, max, pos, fold, refl, ap, arith}
use Rattle.std.proofs.Common.{◌∙◌}
use Rattle.std.proofs.lemmas.List.Sums.{fold-append}
use Rattle.source_valid.specs.Histories.{Step, Number, Arrival, Standing, standing_after, after_number, standing_of}
use Rattle.source_valid.specs.Histories.{timing_after, timing_of, Unheard}
use Rattle.source_valid.specs.Stretches.{begun, expected_of, following, greatest_of}
use Rattle.source_valid.specs.Timings.{untimed}
use Rattle.source_valid.specs.laws.Steady.{Arrived}

over_numbers : (st : Standing) (ns : List ℕ) → fold standing_after st (map Number ns) ≡ fold after_number st ns
over_numbers st [] = refl
over_numbers st (n ∷ ns) = over_numbers (after_number st n) ns

pub standing-numbers : (before : List Step) (ns : List ℕ)
    → standing_of (before ++ map Number ns) ≡ fold after_number (standing_of before) ns
standing-numbers before ns =
    fold-append standing_after Unheard before (map Number ns) ∙ over_numbers (standing_of before) ns

abbrev pub arrivals : List Arrived → List Step
arrivals arrived = map (λ (a : Arrived). Arrival a.ts a.units) arrived

over_arrivals : (st : Standing) (arrived : List Arrived) → fold standing_after st (arrivals arrived) ≡ st
over_arrivals st [] = refl
over_arrivals st (a ∷ arrived) = over_arrivals st arrived

pub standing-arrivals : (before : List Step) (arrived : List Arrived)
    → standing_of (before ++ arrivals arrived) ≡ standing_of before
standing-arrivals before arrived =
    fold-append standing_after Unheard before (arrivals arrived) ∙ over_arrivals (standing_of before) arrived

pub timing-arrivals : (before : List Step) (arrived : List Arrived)
    → timing_of (before ++ arrivals arrived) ≡ fold timing_after (timing_of before) (arrivals arrived)
timing-arrivals before arrived = fold-append timing_after untimed before (arrivals arrived)

same : (n : ℕ) → max n n ≡ n
same n = omega arith

-- of a source that was initialised and given no other number
pub begun-highest : (n : ℕ) → greatest_of (begun (following n)) % 2 ^ 32 ≡ following n
begun-highest n = ap (λ m. m % 2 ^ 32) (same (following n)) ∙ omega arith

pub begun-expected : (n : ℕ) → expected_of n (pos n ∷ []) ≡ 1
begun-expected n = ap (λ m. m + 1 - n) (same n) ∙ omega arith
