use Rattle.std.proofs.Common.{◌∙◌}
use Rattle.desk_calls.proofs.Sounding.{called_new, sound_new}
use Rattle.desk_calls.proofs.desk.Desk.new.Goals as goal

pub invariant_of-result : goal.invariant_of-result
invariant_of-result g c =
    let rows = c.new-2.ensures ∙ c.new.ensures in
    sound_new c.args.rows c.new-3.result c.new-4.result c.members-members.ensures.good (c.new-3.ensures.start ∙ rows)
    (c.new-3.ensures.state ∙ rows) c.new-3.ensures.done c.new-3.ensures.undone c.new-4.ensures.done
    c.new-4.ensures.undone

pub returns-clause-begins : goal.returns-clause-begins
returns-clause-begins g c =
    let rows = c.new-2.ensures ∙ c.new.ensures in
    called_new c.args.rows c.new-3.result c.new-4.result (c.new-3.ensures.start ∙ rows) (c.new-3.ensures.state ∙ rows)
    c.new-3.ensures.done c.new-3.ensures.undone c.new-4.ensures.done c.new-4.ensures.undone
