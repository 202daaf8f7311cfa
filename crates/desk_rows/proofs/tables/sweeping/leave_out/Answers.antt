use Rattle.std.specs.Prelude.{◌++◌, ◌∷◌}
use Rattle.desk_rows.specs.laws.Words.{[], length, sym, ap, ◌∙◌, arith, append_assoc, list_all, and_parts, precedes}
use Rattle.desk_rows.specs.laws.Words.{in_order, without_rows}
use Rattle.std.proofs.lemmas.List.{nil_from_length}
use Rattle.desk_rows.proofs.SlidingLemmas.{none_go, front_stays, out_in_turn, few_left, rest_in_order}
use Rattle.desk_rows.proofs.tables.sweeping.leave_out.Goals as goal

pub loop-first-preserved : goal.loop-first-preserved
loop-first-preserved g c =
    let out = c.loop-first.out.items in
    let rows = c.loop-first.rest.now in
    let t = c.in-Some.first.now in
    let ts = c.in-Some.behind.now in
    let stay = c.parted_at.result.0.now in
    let others = c.parted_at.result.1.now in
    let rest = c.without_first-rest.result.now in
    let left = c.in-Some.ensures.cases.0 in
    let order = ap in_order (sym left) ∙ c.loop-first.invariant.taken in
    let parts =
    ap (without_rows (t ∷ ts)) c.parted_at.ensures.all ∙ front_stays t ts stay others order c.parted_at.ensures.front
    ∙ ap (λ ys. stay ++ ys) (out_in_turn t ts others ∙ ap (without_rows ts) (sym c.without_first-rest.ensures)) in
    let long = ap length c.without_first-rest.ensures in
    record {
      so_far =
          ap (λ ys. ys ++ without_rows ts rest) c.append.ensures.items
          ∙ append_assoc out stay (without_rows ts rest)
          ∙ ap (λ ys. out ++ ys) (sym (ap (λ l. without_rows l rows) left ∙ parts))
          ∙ c.loop-first.invariant.so_far;
      rows = ap in_order c.without_first-rest.ensures ∙ rest_in_order (t ∷ []) others c.parted_at.ensures.order;
      taken = (and_parts (list_all (precedes t) ts) (in_order ts) order).1;
      fits =
          omega (
            arith,
            long,
            few_left (t ∷ []) others,
            c.parted_at.ensures.long,
            c.loop-first.invariant.fits,
            c.append.ensures.len,
            c.append.ensures.capacity,
          );
      capacity = omega (arith, c.loop-first.invariant.capacity, c.append.ensures.capacity);
    }

pub returns-clause-items : goal.returns-clause-items
returns-clause-items g c =
    let out = c.loop-first.out.items in
    let rows = c.loop-first.rest.now in
    let left = nil_from_length c.loop-first.left.now c.in_default.ensures.cases in
    c.append-2.ensures.items
    ∙ ap (λ ys. out ++ ys) (sym (ap (λ l. without_rows l rows) left ∙ none_go rows))
    ∙ c.loop-first.invariant.so_far
