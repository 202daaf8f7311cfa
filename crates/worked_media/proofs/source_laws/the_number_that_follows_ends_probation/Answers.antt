use Rattle.std.proofs.Common.{◌≡◌, ◌++◌, ◌∷◌, [], ℕ, List, map, ap, sym, ◌∙◌}
use Rattle.std.proofs.lemmas.List.{map-append}
use Rattle.source_valid.specs.Histories.{Step, Number, past_probation_in, standing_of}
use Rattle.source_valid.specs.laws.Probations.{last_of}
use Rattle.source_valid.specs.Stretches.{following}
use Rattle.worked_media.proofs.Stood.{standing-numbers}
use Rattle.worked_media.proofs.source_laws.the_number_that_follows_ends_probation.Goals as goal

pub returns : goal.returns
returns c = λ first ns none given is.
    let all : List ℕ = first ∷ (ns ++ following (last_of first ns) ∷ []) in
    let steps : List Step = map Number (first ∷ ns) ++ Number c.args.seq ∷ [] in
    let same : steps ≡ map Number all =
    ap (λ n. map Number (first ∷ ns) ++ Number n ∷ []) is
    ∙ sym (map-append Number (first ∷ ns) (following (last_of first ns) ∷ [])) in
    c.past_probation.ensures.history steps (c.update.ensures.judged (map Number (first ∷ ns)) given).1
    ∙ ap (λ (steps : List Step). past_probation_in (standing_of steps)) same
    ∙ ap past_probation_in (standing-numbers [] all ∙ (c.probations.ensures first ns none).1)
