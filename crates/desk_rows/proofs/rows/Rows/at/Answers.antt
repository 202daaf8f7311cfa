use Rattle.desk_rows.specs.laws.Words.{map, filter, sym, ap, ◌∙◌, slice_get, is_of, rows_of_kind, desk_of}
use Rattle.desk_rows.specs.declared.row.Row.TheVariants as rows
use Rattle.desk_rows.proofs.KindLemmas.{members_only, others_only, plain_others}
use Rattle.desk_rows.proofs.rows.Rows.at.Goals as goal

pub returns-in-Member : goal.returns-in-Member
returns-in-Member g c =
    let self = c.self.inside in
    let d = desk_of self.bridge_ssrc self.members.items self.others.items in
    c.member_row.ensures.row ∙ ap (λ ms. slice_get (map rows.Member ms) c.args.i) c.deref.ensures.value
    ∙ sym ((λ j. slice_get (rows_of_kind (c.in-Member.is j) (sym c.self.view_is j)) c.args.i)
    ∙ ap (λ rs. slice_get rs c.args.i) (members_only d.members d.others (plain_others d c.self.invariant.0)))

pub returns-in_default : goal.returns-in_default
returns-in_default g c =
    let self = c.self.inside in
    let d = desk_of self.bridge_ssrc self.members.items self.others.items in
    c.other_row.ensures
    ∙ ap (λ rs. slice_get rs c.args.i)
    (c.others_of.ensures.rows ∙ ap (λ x. filter (is_of c.args.kind) x.others) (sym c.self.view_is)
    ∙ sym (others_only c.args.kind c.in_default.not-Member d.members d.others)
    ∙ ap (rows_of_kind c.args.kind) c.self.view_is)
