use Rattle.std.proofs.Common.{[], ◌∷◌}
use Rattle.source_valid.specs.Histories.{Number}
use Rattle.worked_media.proofs.sources.is_on_probation_at_first.Goals as goal

pub returns : goal.returns
returns c =
    c.past_probation.ensures.history (Number 7 ∷ []) c.first.ensures
