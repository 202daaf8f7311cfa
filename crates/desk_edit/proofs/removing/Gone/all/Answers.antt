use Rattle.desk_edit.proofs.Words.{Bool, ◌∙◌, Row, goes_with}
use Rattle.desk_rows.specs.declared.key.Kind.TheVariants as kinds
use Rattle.desk_edit.proofs.removing.Gone.all.Goals as goal
use Rattle.desk_edit.proofs.ByKinds.{one_kind_more, members_more, first_kind, last_kind}

pub returns : goal.returns
returns g c =
    let x = c.args.self.now in
    let d = x.going.rows.now in
    let p : Row → Bool = goes_with d x.going.key in
    let gains =
    one_kind_more d p x.going.good kinds.Gain _ _ (c.new-out.ensures.items ∙ first_kind d p) c.in_ok-append.ensures in
    let rooms = one_kind_more d p x.going.good kinds.Room _ _ gains c.in_ok-append-2.ensures in
    let members = members_more d p x.going.good _ rooms in
    let sources = one_kind_more d p x.going.good kinds.Source _ _ members c.in_ok-append-3.ensures in
    let slots = one_kind_more d p x.going.good kinds.Slot _ _ sources c.in_ok-append-4.ensures in
    let subs = one_kind_more d p x.going.good kinds.Sub _ _ slots c.in_ok-append-5.ensures in
    let mutes = one_kind_more d p x.going.good kinds.Mute _ _ subs c.in_ok-append-6.ensures in
    let pins = one_kind_more d p x.going.good kinds.Pin _ _ mutes c.in_ok-append-7.ensures in
    one_kind_more d p x.going.good kinds.Floor _ _ pins c.in_ok-append-8.ensures ∙ last_kind d p
