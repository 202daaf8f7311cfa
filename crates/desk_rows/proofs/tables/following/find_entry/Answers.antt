use Rattle.desk_rows.specs.laws.Words.{suc, true, false, false_from_ne_true, ap, not, sym, ◌∙◌, arith, rules, count_by}
use Rattle.desk_rows.specs.laws.Words.{drop, ◌≡◌, ◌+◌, IsPartitionPoint-from_clause, in_turn, same_row}
use Rattle.std.proofs.lemmas.List.{get_or_read}
use Rattle.desk_rows.specs.laws.ListLaws.{true_false}
use Rattle.desk_rows.proofs.GroupLemmas.{parted_before, in_turn_on, in_turn_itself, count_behind, some_behind}
use Rattle.desk_rows.proofs.GroupLemmas.{none_here, told_by_row}
use Rattle.desk_rows.proofs.tables.following.find_entry.Goals as goal

pub loop-place-init : goal.loop-place-init
loop-place-init g c =
    let group = g.T.Grouped.group in
    let turn = g.T.Grouped.turn in
    let as_row = g.T.Grouped.as_row in
    let may = in_turn group turn in
    let xs = c.args.table.now in
    let one = c.args.one.now in
    let split = parted_before may (in_turn_on group turn) one xs c.requires.order in
    let point =
    IsPartitionPoint-from_clause (λ x. not (may one x)) xs c.partition_point-place.result
    c.partition_point-place.ensures.partitioned split (λ a r q k. search rules) in
    let out = λ (x : g.row.T.Denot) (e : not (may one x) ≡ true).
    false_from_ne_true (same_row (as_row x) (as_row one)) (λ f.
    let is = told_by_row g.T.Grouped.in_row as_row g.met.T.Grouped.its_row x one f in
    true_false (sym e ∙ ap (λ y. not (may one y)) is ∙ ap not (in_turn_itself group turn one))) in
    let behind =
    count_behind (λ x. not (may one x)) (λ x. same_row (as_row x) (as_row one)) out xs c.partition_point-place.result
    point in
    omega (arith, behind, c.requires.there)

pub bounds-table-place : goal.bounds-table-place
bounds-table-place g c =
    some_behind (λ x. same_row (g.T.Grouped.as_row x) (g.T.Grouped.as_row c.args.one.now)) c.args.table.now
    c.loop-place.place c.loop-place.invariant

pub loop-place-preserved : goal.loop-place-preserved
loop-place-preserved g c =
    let q = λ (x : g.row.T.Denot). same_row (g.T.Grouped.as_row x) (g.T.Grouped.as_row c.args.one.now) in
    let within = some_behind q c.args.table.now c.loop-place.place c.loop-place.invariant in
    let other : q (c.index-table-place.result) ≡ false = sym c.is_same.ensures ∙ c.loop-place-test.true in
    let rest =
    none_here q c.args.table.now c.loop-place.place c.index-table-place.result within
    (ap q (sym c.index-table-place.is) ∙ other) in
    let next : suc c.loop-place.place ≡ c.loop-place.place + 1 = omega arith in
    omega (arith, rest, ap (λ n. count_by q (drop n c.args.table.now)) next, c.loop-place.invariant)

pub returns : goal.returns
returns g c =
    let q = λ (x : g.row.T.Denot). same_row (g.T.Grouped.as_row x) (g.T.Grouped.as_row c.args.one.now) in
    let within = some_behind q c.args.table.now c.loop-place.place c.loop-place.invariant in
    let is =
    told_by_row g.T.Grouped.in_row g.T.Grouped.as_row g.met.T.Grouped.its_row c.index-table-place.result c.args.one.now
    (sym c.is_same.ensures ∙ c.loop-place-test.false) in
    record {
      bound = within;
      entry = sym (get_or_read c.args.table.now _ _ within c.index-table-place.is c.args.one.now) ∙ is;
    }
