use Rattle.std.proofs.Common.{refl, ◌∙◌}
use Rattle.desk_edit.specs.Commands.{desk_after}
use Rattle.worked_desk.proofs.grouping.hands_over.Goals as goal

pub returns-clause-desk : goal.returns-clause-desk
unfolding desk_after
returns-clause-desk c = λ done. c.carry_out_all.ensures.state done ∙ simp (c.requires.desk, c.requires.commands) refl
