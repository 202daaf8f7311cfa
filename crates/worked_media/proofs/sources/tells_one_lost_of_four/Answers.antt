use Rattle.std.proofs.Common.{[], ◌∷◌}
use Rattle.source_valid.specs.Histories.{Number, Block}
use Rattle.worked_media.proofs.sources.tells_one_lost_of_four.Goals as goal

pub returns-clause-first : goal.returns-clause-first
returns-clause-first c =
    let step_0 = c.update.ensures.judged (Number 100 ∷ []) c.first-source.ensures in
    let step_1 = c.update-2.ensures.judged (Number 100 ∷ Number 101 ∷ []) step_0.1 in
    let step_2 = c.update-3.ensures.judged (Number 100 ∷ Number 101 ∷ Number 102 ∷ []) step_1.1 in
    c.block-first.ensures.block (Number 100 ∷ Number 101 ∷ Number 102 ∷ Number 104 ∷ []) step_2.1

pub returns-clause-again : goal.returns-clause-again
returns-clause-again c =
    let step_0 = c.update.ensures.judged (Number 100 ∷ []) c.first-source.ensures in
    let step_1 = c.update-2.ensures.judged (Number 100 ∷ Number 101 ∷ []) step_0.1 in
    let step_2 = c.update-3.ensures.judged (Number 100 ∷ Number 101 ∷ Number 102 ∷ []) step_1.1 in
    let told = c.block-first.ensures.new (Number 100 ∷ Number 101 ∷ Number 102 ∷ Number 104 ∷ []) step_2.1 in
    c.block.ensures.block (Number 100 ∷ Number 101 ∷ Number 102 ∷ Number 104 ∷ Block ∷ []) told
