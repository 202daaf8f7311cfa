use Rattle.std.specs.Prelude.{◌++◌}
use Rattle.desk_rows.specs.laws.Words.{length, take, sym, ap, ◌∙◌, arith, in_order, without_rows}
use Rattle.std.proofs.lemmas.List.{nil_from_length}
use Rattle.std.proofs.Math.Seq.{take-append_seam}
use Rattle.desk_rows.proofs.SlidingLemmas.{none_go, front_stays, few_left}
use Rattle.desk_rows.proofs.tables.sweeping.sweep_out.Goals as goal

pub append-requires : goal.append-requires
append-requires g c =
    let others = c.parted_at.result.1.now in
    let taken = c.args.taken.now in
    let made =
    ap length (c.deref-in-Some.ensures.value
    ∙ c.leave_out.ensures.items
    ∙ ap (λ ys. ys ++ without_rows taken others) c.clear.ensures.items) in
    omega (
      arith,
      made,
      few_left taken others,
      c.parted_at.ensures.long,
      ap length c.deref.ensures.value,
      c.args.rows.now.ok.0,
      c.args.rows.now.ok.1,
      c.truncate.ensures.len,
      c.truncate.ensures.capacity,
    )

pub returns-in-Some-clause-items : goal.returns-in-Some-clause-items
returns-in-Some-clause-items g c =
    let t = c.in-Some.first.now in
    let ts = c.in-Some.field-0-1.now in
    let stay = c.parted_at.result.0.now in
    let others = c.parted_at.result.1.now in
    let taken = c.in-Some.ensures.cases.0 in
    let order = ap in_order (sym taken) ∙ c.requires.taken in
    let all = sym c.deref.ensures.value ∙ c.parted_at.ensures.all in
    let front = c.truncate.ensures.items ∙ ap (take (length stay)) all ∙ take-append_seam stay others in
    let made =
    c.deref-in-Some.ensures.value
    ∙ c.leave_out.ensures.items
    ∙ ap (λ ys. ys ++ without_rows c.args.taken.now others) c.clear.ensures.items in
    c.append.ensures.items ∙ (λ i. front i ++ made i)
    ∙ ap (λ l. stay ++ without_rows l others) taken ∙ sym (front_stays t ts stay others order c.parted_at.ensures.front)
    ∙ sym (λ i. without_rows (taken i) (all i))

pub returns-in_default-clause-items : goal.returns-in_default-clause-items
returns-in_default-clause-items g c =
    let rows = c.args.rows.now.items in
    sym (ap (λ l. without_rows l rows) (nil_from_length c.args.taken.now c.in_default.ensures.cases) ∙ none_go rows)
