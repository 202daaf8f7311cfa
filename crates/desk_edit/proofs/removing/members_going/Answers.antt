use Rattle.std.specs.Prelude.{◌≡◌}
use Rattle.desk_edit.proofs.Words.{List, IfOk, ◌∙◌, subst, Placed, placed_from, picks}
use Rattle.desk_edit.proofs.removing.members_going.Goals as goal
use Rattle.desk_edit.proofs.MembersGoing.{members_going}

pub returns-clause-members : goal.returns-clause-members
returns-clause-members g c =
    let is =
    (λ i. placed_from 0 (picks (c.with.ensures i)) (c.members.ensures.members i))
    ∙ members_going c.args.rows.now c.args.key c.members.ensures.good in
    subst (λ (ps : List Placed). IfOk c.members_picked.result (λ v. v.items ≡ ps)) is c.members_picked.ensures
