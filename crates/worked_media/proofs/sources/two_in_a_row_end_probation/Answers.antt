use Rattle.std.proofs.Common.{[], ◌∷◌}
use Rattle.source_valid.specs.Histories.{Number}
use Rattle.worked_media.proofs.sources.two_in_a_row_end_probation.Goals as goal

pub returns : goal.returns
returns c =
    let step_0 = c.update.ensures.judged (Number 65534 ∷ []) c.first-source.ensures in
    step_0.0
