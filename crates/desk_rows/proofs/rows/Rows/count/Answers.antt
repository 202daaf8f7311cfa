use Rattle.desk_rows.specs.laws.Words.{length, sym, ap, ◌∙◌, count_of}
use Rattle.desk_rows.proofs.KindLemmas.{members_counted, others_counted, plain_others}
use Rattle.desk_rows.proofs.rows.Rows.count.Goals as goal

pub returns-in-Member : goal.returns-in-Member
returns-in-Member g c =
    let d = c.args.self.now in
    ap length c.members.ensures.members
    ∙ members_counted d.members d.others (plain_others d c.members.ensures.good)
    ∙ ap (λ kind. count_of kind d) (sym c.in-Member.is)

pub returns-in_default : goal.returns-in_default
returns-in_default g c =
    let d = c.args.self.now in
    ap length c.others_of.ensures.rows ∙ others_counted c.args.kind c.in_default.not-Member d.members d.others
