use Rattle.std.proofs.Common.{vec_capacity, refl}
use Rattle.event_lines.specs.Answers.{answer_list}
use Rattle.event_lines.proofs.KeptLemmas.{left_kept, same_kept}
use Rattle.event_lines.proofs.budget.LineBudget.leave_out.Goals as goal

pub invariant_of-self : goal.invariant_of-self
invariant_of-self c =
    let here = c.self.inside in
    same_kept refl refl c.note_left.ensures c.saturating_add-self-inside.ensures
    (left_kept here.recent.items (vec_capacity here.recent) (answer_list here.answered) here.latest here.untold
    c.args.events c.self.invariant)
