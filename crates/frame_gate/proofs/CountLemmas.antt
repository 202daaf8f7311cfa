-- What a gate counts of its answers.
use Rattle.std.proofs.Common.{◌≡◌, ℕ, ◌+◌, Bool, true, false, List, ◌++◌, length, sym, ap, ◌∙◌, arith}
use Rattle.std.proofs.Common.{length-append}
use Rattle.frame_gate.specs.Frame.{WholeFrame}
use Rattle.frame_gate.specs.Watched.{one_more_if}
use Rattle.frame_gate.specs.Waits.{so_many}

so_many_more : (a b : ℕ) → so_many (so_many a + b) ≡ so_many (a + b)
so_many_more a b = omega arith

-- some frames more
pub frames_more : (old new : ℕ) (before more after : List WholeFrame) → old ≡ so_many (length before)
    → new ≡ so_many (old + length more) → after ≡ before ++ more → new ≡ so_many (length after)
frames_more old new before more after had is all =
    is
    ∙ ap (λ n. so_many (n + length more)) had
    ∙ so_many_more (length before) (length more)
    ∙ ap so_many (sym (length-append before more))
    ∙ ap (λ (fs : List WholeFrame). so_many (length fs)) (sym all)

one_more : (is_so : Bool) (count : ℕ) → so_many (one_more_if is_so (so_many count)) ≡ so_many (one_more_if is_so count)
one_more true count = so_many_more count 1
one_more false count = omega arith

-- once more, if it gave up
pub gaps_more : (old new count : ℕ) (pli gives_up : Bool) → old ≡ so_many count → new ≡ so_many (one_more_if pli old)
    → pli ≡ gives_up → new ≡ so_many (one_more_if gives_up count)
gaps_more old new count pli gives_up had is same =
    is
    ∙ (λ i. so_many (one_more_if (same i) (had i)))
    ∙ one_more gives_up count
