use Rattle.std.proofs.Common.{[], ◌∷◌}
use Rattle.source_valid.specs.Histories.{Number}
use Rattle.worked_media.proofs.sources.counts_what_comes_late.Goals as goal

pub returns : goal.returns
returns c =
    let step_0 = c.update.ensures.judged (Number 65534 ∷ []) c.first-source.ensures in
    let step_1 = c.update-2.ensures.judged (Number 65534 ∷ Number 65535 ∷ []) step_0.1 in
    let step_2 = c.update-3.ensures.judged (Number 65534 ∷ Number 65535 ∷ Number 0 ∷ []) step_1.1 in
    let step_3 = c.update-4.ensures.judged (Number 65534 ∷ Number 65535 ∷ Number 0 ∷ Number 1 ∷ []) step_2.1 in
    step_3.0
