use Rattle.std.proofs.Common.{◌≡◌, ℕ, ◌∙◌, ap, subst, Bool, List, Option, None}
use Rattle.std.specs.Bool.{MatchBool}
use Rattle.operator_threads.specs.Lease.{LeaseOf, takes_calls}
use Rattle.operator_threads.specs.Told.{shown_name}
use Rattle.operator_threads.specs.Watches.{AnswersCall, IsClosed, after_learning}
use Rattle.operator_threads.proofs.laws.without_a_lease_each_call_is_taken.Goals as goal

pub returns : goal.returns
returns c start publisher moment old new line call said answered none =
    let judged = answered.2 in
    let before = after_learning new.learnt old in
    subst
    (λ (takes : Bool).
    MatchBool takes (AnswersCall start publisher moment before new line call said) (IsClosed before new line said))
    (judged.1 ∙ ap (λ (lease : Option LeaseOf). takes_calls lease judged.0 (shown_name old.name)) none) answered.3
