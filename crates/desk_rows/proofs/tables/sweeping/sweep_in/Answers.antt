use Rattle.std.specs.Prelude.{◌++◌}
use Rattle.desk_rows.specs.laws.Words.{length, take, sym, ap, ◌∙◌, arith, in_order, with_rows}
use Rattle.std.proofs.lemmas.List.{nil_from_length}
use Rattle.std.proofs.Math.Seq.{take-append_seam}
use Rattle.desk_rows.specs.laws.OrderLaws.{length-with_rows}
use Rattle.desk_rows.proofs.Merging.{front_stays}
use Rattle.desk_rows.proofs.tables.sweeping.sweep_in.Goals as goal

pub append-requires : goal.append-requires
append-requires g c =
    let others = c.parted_before.result.1.now in
    let put = c.args.put.now in
    let made =
    ap length (c.deref-in-Some.ensures.value
    ∙ c.merge.ensures.items
    ∙ ap (λ ys. ys ++ with_rows put others) c.clear.ensures.items) in
    omega (
      arith,
      made,
      length-with_rows put others,
      c.parted_before.ensures.long,
      ap length c.deref.ensures.value,
      c.args.rows.now.ok.0,
      c.requires.capacity.0,
      c.truncate.ensures.len,
      c.truncate.ensures.capacity,
    )

pub returns-in-Some-clause-items : goal.returns-in-Some-clause-items
returns-in-Some-clause-items g c =
    let p = c.in-Some.first.now in
    let ps = c.in-Some.field-0-1.now in
    let front = c.parted_before.result.0.now in
    let others = c.parted_before.result.1.now in
    let put = c.in-Some.ensures.cases.0 in
    let order = ap in_order (sym put) ∙ c.requires.order in
    let all = sym c.deref.ensures.value ∙ c.parted_before.ensures.all in
    let stay = c.truncate.ensures.items ∙ ap (take (length front)) all ∙ take-append_seam front others in
    let made =
    c.deref-in-Some.ensures.value
    ∙ c.merge.ensures.items
    ∙ ap (λ ys. ys ++ with_rows c.args.put.now others) c.clear.ensures.items in
    c.append.ensures.items ∙ (λ i. stay i ++ made i)
    ∙ ap (λ l. front ++ with_rows l others) put
    ∙ sym (front_stays p ps front others order c.parted_before.ensures.front)
    ∙ sym (λ i. with_rows (put i) (all i))

pub returns-in_default-clause-items : goal.returns-in_default-clause-items
returns-in_default-clause-items g c =
    sym (ap (λ l. with_rows l c.args.rows.now.items) (nil_from_length c.args.put.now c.in_default.ensures.cases))
