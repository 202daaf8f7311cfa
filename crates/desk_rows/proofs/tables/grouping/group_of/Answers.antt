use Rattle.desk_rows.specs.laws.Words.{take, nat_lt, nat_le, ap, subst, ◌∙◌, sym, rules, IsNonDecreasingBy}
use Rattle.desk_rows.specs.laws.Words.{IsPartitionPoint-from_clause, IsPartitionedBy-ltb, IsPartitionedBy-leb}
use Rattle.desk_rows.specs.laws.Words.{IsNonDecreasingBy-drop, Parts}
use Rattle.desk_rows.proofs.GroupLemmas.{groups_rise}
use Rattle.desk_rows.proofs.Halving.{of_number}
use Rattle.desk_rows.proofs.tables.grouping.group_of.Goals as goal

pub returns : goal.returns
returns g c =
    let group = g.T.Grouped.group in
    let xs = c.args.table.now in
    let n = c.args.number in
    let i = c.partition_point-before.result in
    let j = c.partition_point-count.result in
    let ys = c.split_at.result.1.now in
    let rest = c.split_at.ensures.back in
    let up = groups_rise group g.T.Grouped.turn xs c.requires in
    let up_rest = subst (IsNonDecreasingBy group) (sym rest) (IsNonDecreasingBy-drop group i xs up) in
    let first =
    IsPartitionPoint-from_clause (λ x. nat_lt (group x) n) xs i c.partition_point-before.ensures.partitioned
    (IsPartitionedBy-ltb group xs n up) (λ a r q k. search rules) in
    let second =
    IsPartitionPoint-from_clause (λ x. nat_le (group x) n) ys j c.partition_point-count.ensures.partitioned
    (IsPartitionedBy-leb group ys n up_rest) (λ a r q k. search rules) in
    c.split_at-2.ensures.front
    ∙ ap (take j) rest
    ∙ of_number group n xs i j first (subst (λ zs. Parts (λ x. nat_le (group x) n) zs j) rest second)
