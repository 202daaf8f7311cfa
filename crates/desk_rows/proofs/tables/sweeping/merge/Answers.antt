use Rattle.std.specs.Prelude.{◌++◌, ◌∷◌}
use Rattle.desk_rows.specs.laws.Words.{[], length, sym, ap, ◌∙◌, arith, append_assoc, list_all, and_parts, precedes}
use Rattle.desk_rows.specs.laws.Words.{in_order, with_rows}
use Rattle.std.proofs.lemmas.List.{nil_from_length}
use Rattle.desk_rows.proofs.Merging.{front_stays, comes_first}
use Rattle.desk_rows.proofs.tables.sweeping.merge.Goals as goal

pub loop-first-preserved : goal.loop-first-preserved
loop-first-preserved g c =
    let out = c.loop-first.out.items in
    let rows = c.loop-first.rest.now in
    let p = c.in-Some.first.now in
    let ps = c.in-Some.behind.now in
    let front = c.parted_before.result.0.now in
    let others = c.parted_before.result.1.now in
    let whole = with_rows ps others in
    let left = c.in-Some.ensures.cases.0 in
    let order = ap in_order (sym left) ∙ c.loop-first.invariant.order in
    let parts =
    ap (with_rows (p ∷ ps)) c.parted_before.ensures.all
    ∙ front_stays p ps front others order c.parted_before.ensures.front
    ∙ ap (λ ys. front ++ ys) (comes_first p ps others order c.parted_before.ensures.behind) in
    let long = ap length left in
    record {
      so_far =
          ap (λ ys. ys ++ whole) (c.push_reserved.ensures.items ∙ ap (λ ys. ys ++ p ∷ []) c.append.ensures.items)
          ∙ append_assoc (out ++ front) (p ∷ []) whole ∙ append_assoc out front (p ∷ whole)
          ∙ ap (λ ys. out ++ ys) (sym (ap (λ l. with_rows l rows) left ∙ parts)) ∙ c.loop-first.invariant.so_far;
      rows = c.parted_before.ensures.order;
      order = (and_parts (list_all (precedes p) ps) (in_order ps) order).1;
      fits =
          omega (
            arith,
            long,
            c.parted_before.ensures.long,
            c.loop-first.invariant.fits,
            c.append.ensures.len,
            c.append.ensures.capacity,
            c.push_reserved.ensures.len,
            c.push_reserved.ensures.capacity,
          );
      capacity =
          omega (arith, c.loop-first.invariant.capacity, c.append.ensures.capacity, c.push_reserved.ensures.capacity);
    }

pub returns-clause-items : goal.returns-clause-items
returns-clause-items g c =
    let out = c.loop-first.out.items in
    let rows = c.loop-first.rest.now in
    let left = nil_from_length c.loop-first.left.now c.in_default.ensures.cases in
    c.append-2.ensures.items
    ∙ ap (λ ys. out ++ ys) (sym (ap (λ l. with_rows l rows) left))
    ∙ c.loop-first.invariant.so_far
