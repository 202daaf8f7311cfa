use Rattle.std.proofs.Common.{refl, ◌∙◌}
use Rattle.std.proofs.lemmas.Result.{on_ok_weaker}
use Rattle.desk_edit.specs.Commands.{desk_after}
use Rattle.worked_desk.proofs.making.subscribe_anew.Goals as goal

pub returns : goal.returns
unfolding desk_after
returns c =
    on_ok_weaker c.carry_out-2.result
    (λ is. is ∙ simp (c.subscribe.ensures, c.in_ok-carry_out.ensures, c.source.ensures, c.requires) refl)
    c.carry_out-2.ensures
