use Rattle.desk_rows.specs.laws.Words.{not, rules, IsPartitionPoint-from_clause, precedes}
use Rattle.desk_rows.proofs.Halving.{parted}
use Rattle.desk_rows.proofs.SlidingLemmas.{before_falls}
use Rattle.desk_rows.proofs.tables.sliding.place_before.Goals as goal

pub returns-clause-parts : goal.returns-clause-parts
returns-clause-parts c =
    let xs = c.args.rows.now in
    let row = c.args.row.now in
    let split = parted (λ x. not (precedes row x)) (before_falls row) xs c.requires in
    IsPartitionPoint-from_clause (λ x. not (precedes row x)) xs c.partition_point.result
    c.partition_point.ensures.partitioned split (λ a r q k. search rules)
