use Rattle.std.specs.Prelude.{◌≡◌}
use Rattle.desk_edit.proofs.Words.{not, List, filter, IfOk, ap, ◌∙◌, subst, Row, names, are_together, with_member_in}
use Rattle.desk_edit.proofs.editing.others_parted.Goals as goal
use Rattle.desk_edit.proofs.Parted.{parted_among}

pub returns : goal.returns
returns g c =
    let d = c.args.rows.now in
    let is =
    ap (filter (λ r. not (are_together (with_member_in d c.args.member c.args.room) (names r))))
    (c.deref.ensures.value ∙ c.in_ok-dependent.ensures.others)
    ∙ parted_among d c.args.member c.args.room c.others_going.ensures.good in
    subst (λ (xs : List Row). IfOk c.parted.result (λ v. v.items ≡ xs)) is c.parted.ensures
