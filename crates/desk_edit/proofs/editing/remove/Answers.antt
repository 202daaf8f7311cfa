use Rattle.desk_edit.proofs.Words.{sym, ◌∙◌, goes_with}
use Rattle.desk_rows.specs.declared.row.Row.TheVariants as rows
use Rattle.desk_edit.proofs.editing.remove.Goals as goal
use Rattle.desk_edit.proofs.Lists.{nothing}
use Rattle.desk_edit.proofs.MembersGoing.{none_placed}

pub others_going-requires : goal.others_going-requires
others_going-requires g c none =
    let d = c.args.rows.now in
    none_placed 0 (λ m. goes_with d c.args.key (rows.Member m)) d.members (sym c.in_ok-members.ensures.members
    ∙ nothing c.in_ok-members.members.items _ (sym c.in_ok-members.members.ok.0) (sym c.is_empty.ensures ∙ none))
