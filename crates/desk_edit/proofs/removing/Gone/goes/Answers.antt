use Rattle.desk_edit.proofs.Words.{refl, sym, ap, ◌∙◌, is_some, list_any, kind_of, has_key, in_order, is_found}
use Rattle.desk_rows.specs.declared.key.Kind.TheVariants as kinds
use Rattle.desk_edit.proofs.removing.Gone.goes.Goals as goal
use Rattle.desk_edit.proofs.GoneLemmas.{stream_found, streams_in_order}

pub find_row-requires : goal.find_row-requires
find_row-requires g c =
    let x = c.args.self.now in
    ap in_order (c.deref.ensures.value ∙ x.sources_go)
    ∙ streams_in_order x.going.rows.now x.going.key x.going.good kinds.Source

pub find_row-requires-in-Slot : goal.find_row-requires-in-Slot
find_row-requires-in-Slot g c =
    let x = c.args.self.now in
    ap in_order (c.deref-in-Slot.ensures.value ∙ x.slots_go)
    ∙ streams_in_order x.going.rows.now x.going.key x.going.good kinds.Slot

pub returns-in-Source : goal.returns-in-Source
returns-in-Source g c =
    let x = c.args.self.now in
    c.is_some.ensures ∙ ap is_some c.find_row.ensures ∙ sym (is_found (has_key c.args.name) c.deref.result.now)
    ∙ ap (list_any (has_key c.args.name)) (c.deref.ensures.value ∙ x.sources_go)
    ∙ stream_found x.going.rows.now x.going.key x.going.good x.low c.args.name kinds.Source refl
    (ap kind_of c.in-Source.is)

pub returns-in-Slot : goal.returns-in-Slot
returns-in-Slot g c =
    let x = c.args.self.now in
    c.is_some-in-Slot.ensures
    ∙ ap is_some c.find_row-in-Slot.ensures
    ∙ sym (is_found (has_key c.args.name) c.deref-in-Slot.result.now)
    ∙ ap (list_any (has_key c.args.name)) (c.deref-in-Slot.ensures.value ∙ x.slots_go)
    ∙ stream_found x.going.rows.now x.going.key x.going.good x.low c.args.name kinds.Slot refl (ap kind_of c.in-Slot.is)
