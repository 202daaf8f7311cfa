use Rattle.std.proofs.Common.{◌≡◌, ◌∙◌, ◌≤◌, ℕ, List, [], ◌∷◌, ◌++◌, length, max, vec_capacity, refl, ap}
use Rattle.std.proofs.Common.{arith}
use Rattle.std.proofs.lemmas.Bool.Decides.{nat_tests}
use Rattle.event_lines.specs.Answers.{answer_list}
use Rattle.event_lines.proofs.KeptLemmas.{moved, wrote_kept, left_kept, same_kept}
use Rattle.event_lines.proofs.budget.LineBudget.take.Goals as goal

later : (a b now : ℕ) → now ≡ max a b → a ≤ now
later a b now is = grind (arith, nat_tests)

pub invariant_of-self : goal.invariant_of-self
invariant_of-self c =
    let here = c.self.inside in
    let now = c.max-now.result in
    let kept = c.keep_recent.ensures.kept in
    let ok = c.keep_recent.new.moments.ok in
    same_kept (c.push_reserved.ensures.items ∙ ap (λ (l : List ℕ). l ++ now ∷ []) kept)
    (c.push_reserved.ensures.capacity ∙ c.keep_recent.ensures.capacity) c.note_line.ensures refl
    (wrote_kept here.recent.items (vec_capacity here.recent) (answer_list here.answered) here.latest here.untold now
    c.self.invariant (later here.latest c.args.now now c.max-now.ensures)
    (omega (arith, ok, ap length kept, c.len.ensures, c.if-len-lt-MOST_LINES.true)))

pub invariant_of-self-else-len-lt-MOST_LINES : goal.invariant_of-self-else-len-lt-MOST_LINES
invariant_of-self-else-len-lt-MOST_LINES c =
    let here = c.self.inside in
    let now = c.max-now.result in
    same_kept c.keep_recent.ensures.kept c.keep_recent.ensures.capacity c.note_left.ensures
    c.saturating_add-self-inside.ensures
    (left_kept _ _ _ now here.untold 1
    (moved here.recent.items (vec_capacity here.recent) (answer_list here.answered) here.latest here.untold now
    c.self.invariant (later here.latest c.args.now now c.max-now.ensures)))
