use Rattle.std.proofs.Common.{[], ◌∷◌}
use Rattle.source_valid.specs.Histories.{Number}
use Rattle.worked_media.proofs.sources.jumps_at_3000_ahead.Goals as goal

pub returns : goal.returns
returns c =
    let step_0 = c.update.ensures.judged (Number 0 ∷ []) c.first-source.ensures in
    let step_1 = c.update-2.ensures.judged (Number 0 ∷ Number 1 ∷ []) step_0.1 in
    step_1.0
