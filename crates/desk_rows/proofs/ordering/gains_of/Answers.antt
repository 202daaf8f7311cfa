use Rattle.desk_rows.specs.laws.Words.{take, sym, ap, subst, ◌∙◌, rules, IsPartitionedBy, IsPartitionPoint-from_clause}
use Rattle.desk_rows.specs.laws.Words.{is_gain_of, Parts}
use Rattle.desk_rows.specs.declared.key.Key.TheVariants as keys
use Rattle.desk_rows.proofs.Halving.{parted, key_falls}
use Rattle.desk_rows.proofs.GainLemmas.{is_before, gains_parted, gains_together}
use Rattle.desk_rows.proofs.ordering.gains_of.Goals as goal

pub returns : goal.returns
returns c =
    let xs = c.args.rows.now in
    let member = c.args.member in
    let i = c.partition_point-before.result in
    let j = c.partition_point-count.result in
    let ys = c.split_at.result.1.now in
    let rest = c.split_at.ensures.back in
    let first =
    IsPartitionPoint-from_clause (is_before member) xs i c.partition_point-before.ensures.partitioned
    (parted (is_before member) (key_falls (keys.Gain member 0)) xs c.requires) (λ a r q k. search rules) in
    let split = subst (IsPartitionedBy (is_gain_of member)) (sym rest) (gains_parted member xs i c.requires first) in
    let second =
    IsPartitionPoint-from_clause (is_gain_of member) ys j c.partition_point-count.ensures.partitioned split
    (λ a r q k. search rules) in
    c.split_at-2.ensures.front
    ∙ ap (take j) rest
    ∙ gains_together member xs i j first (subst (λ zs. Parts (is_gain_of member) zs j) rest second)
