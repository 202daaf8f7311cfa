use Rattle.desk_rows.specs.laws.Words.{true, filter, ap, sym, ◌∙◌, arith, count_by, count_by-le-length, is_of}
use Rattle.desk_rows.specs.laws.Words.{passes_in}
use Rattle.desk_rows.proofs.GroupLemmas.{count_of_kind, unchanged}
use Rattle.desk_rows.proofs.tables.following.follow.Goals as goal

pub returns-then-leaves-clause-table : goal.returns-then-leaves-clause-table
returns-then-leaves-clause-table g c =
    let e = c.args.edit.now in
    let none = sym c.leaves.ensures ∙ c.if-leaves.true in
    record {
      order = c.requires.order;
      same = λ p.
          unchanged c.kind.result g.T.Grouped.in_row
          (λ r h. g.met.T.Grouped.of_kind r (ap (λ k. is_of k r) (sym c.kind.ensures) ∙ h)) p e.taken.others
          e.replaced.old
          e.put.others e.replaced.new _ _ none (c.requires.before p);
    }

pub exchange_each-requires-clause-there : goal.exchange_each-requires-clause-there
exchange_each-requires-clause-there g c p =
    let n = count_by (passes_in g.T.Grouped.in_row p) in
    omega (
      arith,
      c.requires.there p,
      c.rows_in-taken.ensures.same p,
      ap n c.taken_others.ensures,
      c.rows_in-old.ensures.same p,
      ap n c.old.ensures,
    )

pub exchange_each-requires-clause-capacity : goal.exchange_each-requires-clause-capacity
exchange_each-requires-clause-capacity g c =
    let others = c.args.others.now in
    let in_row = g.T.Grouped.in_row in
    let all = λ (x : g.row.T.Denot). true in
    let n = count_by (passes_in in_row all) in
    let few = count_by-le-length (passes_in in_row all) (filter (is_of g.T.Grouped.kind) others) in
    let same = count_of_kind g.T.Grouped.kind in_row g.met.T.Grouped.of_kind all others in
    omega (
      arith,
      few,
      same,
      c.requires.before all,
      c.requires.capacity,
      c.rows_in-taken.ensures.same all,
      ap n c.taken_others.ensures,
      c.rows_in-old.ensures.same all,
      ap n c.old.ensures,
      c.rows_in-put.ensures.same all,
      ap n c.put_others.ensures,
      c.rows_in-new.ensures.same all,
      ap n c.new.ensures,
    )

pub returns-clause-table : goal.returns-clause-table
returns-clause-table g c =
    record {
      order = c.exchange_each.ensures.order;
      same = λ p.
          let n = count_by (passes_in g.T.Grouped.in_row p) in
          omega (
            arith,
            c.requires.before p,
            c.exchange_each.ensures.same p,
            c.rows_in-taken.ensures.same p,
            ap n c.taken_others.ensures,
            c.rows_in-old.ensures.same p,
            ap n c.old.ensures,
            c.rows_in-put.ensures.same p,
            ap n c.put_others.ensures,
            c.rows_in-new.ensures.same p,
            ap n c.new.ensures,
          );
    }
