use Rattle.desk_rows.specs.laws.Words.{rules, IsPartitionPoint-from_clause, key_of, precedes}
use Rattle.desk_rows.proofs.Halving.{parted, key_falls}
use Rattle.desk_rows.proofs.tables.sliding.place_of.Goals as goal

pub returns-clause-parts : goal.returns-clause-parts
returns-clause-parts c =
    let xs = c.args.rows.now in
    let row = c.args.row.now in
    let split = parted (λ x. precedes x row) (key_falls (key_of row)) xs c.requires in
    IsPartitionPoint-from_clause (λ x. precedes x row) xs c.partition_point.result c.partition_point.ensures.partitioned
    split (λ a r q k. search rules)
