use Rattle.std.proofs.Common.{refl, ◌∙◌}
use Rattle.std.proofs.lemmas.Result.{on_ok_weaker}
use Rattle.desk_rows.specs.Exchange.{fits, is_apt, exchanged, after}
use Rattle.desk_rows.specs.Desk.{good}
use Rattle.worked_desk.proofs.undoing.push.Goals as goal

pub push-requires : goal.push-requires
unfolding fits is_apt exchanged good
push-requires c = simp (c.requires.state, c.requires.edit) refl

pub returns-clause-state : goal.returns-clause-state
unfolding after fits is_apt exchanged good
returns-clause-state c =
    on_ok_weaker c.push.result (λ is. is.0 ∙ simp (c.requires.state, c.requires.edit) refl) c.push.ensures.ok
