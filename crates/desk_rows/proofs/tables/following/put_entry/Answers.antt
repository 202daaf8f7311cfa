use Rattle.desk_rows.specs.laws.Words.{cond, not, insert, length, ap, subst, ◌∙◌, arith, rules}
use Rattle.desk_rows.specs.laws.Words.{IsPartitionPoint-from_clause, stand_by, in_turn, Parts}
use Rattle.std.proofs.Math.Bool.{not-not}
use Rattle.desk_rows.proofs.GroupLemmas.{stand_by-insert, parted_by, in_turn_on, in_turn_either}
use Rattle.desk_rows.proofs.tables.following.put_entry.Goals as goal

pub returns-clause-order : goal.returns-clause-order
returns-clause-order g c =
    let group = g.T.Grouped.group in
    let turn = g.T.Grouped.turn in
    let may = in_turn group turn in
    let xs = c.args.table.now.items in
    let y = c.args.one.now in
    let i = c.partition_point-place.result in
    let there = c.deref.ensures.value in
    let found = c.partition_point-place.ensures in
    let parted =
    parted_by may (in_turn_on group turn) y c.deref.result.now (ap (stand_by may) there ∙ c.requires.order) in
    let point =
    IsPartitionPoint-from_clause (λ x. may x y) c.deref.result.now i found.partitioned parted
    (λ a r q k. search (rules, not-not)) in
    ap (stand_by may) (c.insert.ensures.items
    ∙ ap (λ b. cond b (insert xs i y) xs) (c.is_err.ensures.negation ∙ ap not c.if-is_err.false))
    ∙ stand_by-insert may (in_turn_on group turn) (in_turn_either group turn) y xs i c.requires.order
    (subst (λ zs. Parts (λ x. may x y) zs i) there point)
    (omega (arith, found.bound, ap length there))
