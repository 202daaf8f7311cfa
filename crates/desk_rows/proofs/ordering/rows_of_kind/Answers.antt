use Rattle.desk_rows.specs.laws.Words.{take, nat_lt, nat_le, ap, subst, ◌∙◌, rules, IsPartitionPoint-from_clause, rank}
use Rattle.desk_rows.specs.laws.Words.{kind_of, key_of, in_order, Parts}
use Rattle.desk_rows.proofs.Halving.{parted, below_falls, within_falls, order_of_rest, of_kind}
use Rattle.desk_rows.proofs.ordering.rows_of_kind.Goals as goal

pub returns : goal.returns
returns c =
    let xs = c.args.rows.now in
    let kind = c.args.kind in
    let n = rank kind in
    let i = c.partition_point-before.result in
    let j = c.partition_point-count.result in
    let ys = c.split_at.result.1.now in
    let rest = c.split_at.ensures.back in
    let order = ap in_order rest ∙ order_of_rest i xs c.requires in
    let first =
    IsPartitionPoint-from_clause (λ x. nat_lt (rank (kind_of (key_of x))) n) xs i
    c.partition_point-before.ensures.partitioned
    (parted (λ x. nat_lt (rank (kind_of (key_of x))) n) (below_falls n) xs c.requires) (λ a r q k. search rules) in
    let second =
    IsPartitionPoint-from_clause (λ x. nat_le (rank (kind_of (key_of x))) n) ys j
    c.partition_point-count.ensures.partitioned
    (parted (λ x. nat_le (rank (kind_of (key_of x))) n) (within_falls n) ys order) (λ a r q k. search rules) in
    c.split_at-2.ensures.front
    ∙ ap (take j) rest
    ∙ of_kind kind xs i j first (subst (λ zs. Parts (λ x. nat_le (rank (kind_of (key_of x))) n) zs j) rest second)
