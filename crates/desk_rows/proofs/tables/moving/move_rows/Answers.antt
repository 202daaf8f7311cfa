use Rattle.desk_rows.specs.laws.Words.{ap, sym, ◌∙◌, in_order, with_rows, without_rows, outs}
use Rattle.desk_rows.proofs.Merging.{put_in_turn, order_within}
use Rattle.desk_rows.proofs.tables.moving.move_rows.Goals as goal

pub put_rows-requires-2-clause-rows : goal.put_rows-requires-2-clause-rows
put_rows-requires-2-clause-rows g c =
    let e = c.args.edit.now in
    let rest = without_rows (outs e) c.args.others.now.items in
    let left =
    c.take_rows.ensures.items
    ∙ (λ i. without_rows (with_rows (c.old.ensures i) (c.taken_others.ensures i)) c.args.others.now.items) in
    let put = c.put_rows.ensures.items ∙ (λ i. with_rows (c.put_others.ensures i) (left i)) in
    ap in_order put
    ∙ order_within e.replaced.new (with_rows e.put.others rest)
    (ap in_order (sym (put_in_turn e.put.others e.replaced.new rest c.requires.apart)) ∙ c.requires.later)
