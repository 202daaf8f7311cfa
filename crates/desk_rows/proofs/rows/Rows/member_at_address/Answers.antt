use Rattle.desk_rows.specs.laws.Words.{ap, ◌∙◌, member_at_address}
use Rattle.desk_rows.proofs.AddressLemmas.{asked}
use Rattle.desk_rows.proofs.rows.Rows.member_at_address.Goals as goal

pub returns : goal.returns
returns g c =
    let a = c.args.address.now in
    let is = c.find_at.ensures in
    asked _ c.self.inside.by_address.items c.deref.result.now a c.find_at.result c.self.invariant.0 c.self.invariant.10
    c.deref.ensures.value is.there is.at is.none
    ∙ ap (λ d. member_at_address d a) c.self.view_is
