use Rattle.std.proofs.Common.{[], ◌∷◌}
use Rattle.source_valid.specs.Histories.{Number}
use Rattle.worked_media.proofs.sources.two_with_one_left_out_do_not.Goals as goal

pub returns : goal.returns
returns c =
    let step_0 = c.update.ensures.judged (Number 7 ∷ []) c.first-source.ensures in
    step_0.0
