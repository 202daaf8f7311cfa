use Rattle.desk_rows.specs.laws.Words.{filter, nat_eq, ap, ◌∙◌, MemberRow as Member, members_in}
use Rattle.desk_rows.proofs.RoomLemmas.{members_in_table}
use Rattle.desk_rows.proofs.rows.Rows.members_of.Goals as goal

pub returns : goal.returns
returns g c member =
    let room = c.args.room in
    let these = c.group_of.ensures ∙ ap (filter (λ (m : Member). nat_eq m.room room)) c.deref.ensures.value in
    ap (filter (λ (m : Member). nat_eq m.member member)) these
    ∙ members_in_table _ room c.self.inside.by_room.items c.self.invariant.0 c.self.invariant.12 member
    ∙ ap (λ d. filter (λ (m : Member). nat_eq m.member member) (members_in d room)) c.self.view_is
