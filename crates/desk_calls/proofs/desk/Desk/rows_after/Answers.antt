use Rattle.std.proofs.Common.{fold, take, ◌∙◌}
use Rattle.desk_calls.specs.Edits.{after}
use Rattle.desk_calls.proofs.desk.Desk.rows_after.Goals as goal

pub returns : goal.returns
returns g c =
    c.into_rows.ensures
    ∙ c.into_inner.ensures
    ∙ c.take_back_on.ensures
    ∙ (λ i. fold after (c.history.ensures.start i) (take c.args.count (c.history.ensures.done i)))
