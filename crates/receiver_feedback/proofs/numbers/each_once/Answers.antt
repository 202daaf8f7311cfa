use Rattle.std.proofs.Common.{ap, ◌∙◌, fold, List, ℕ}
use Rattle.receiver_feedback.specs.inner.Seen.{added}
use Rattle.receiver_feedback.proofs.Collected.{all_collected}
use Rattle.receiver_feedback.proofs.numbers.each_once.Goals as goal

pub returns : goal.returns
returns g c =
    c.in_ok-add_all.ensures.added
    ∙ ap (λ (ns : List ℕ). fold added ns c.args.numbers.now) c.new-once.ensures.items
    ∙ all_collected c.args.numbers.now
