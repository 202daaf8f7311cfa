use Rattle.std.proofs.Common.{sym, ◌∙◌}
use Rattle.desk_revert.proofs.Idle.{changes_nothing}
use Rattle.desk_revert.proofs.again.carry_out_one.Goals as goal

pub returns-then-is_idle-clause-done : goal.returns-then-is_idle-clause-done
returns-then-is_idle-clause-done g c =
    sym (changes_nothing c.args.rows.now c.args.command.now c.members-members.ensures.good
    (sym c.is_idle.ensures ∙ c.if-is_idle.true))
