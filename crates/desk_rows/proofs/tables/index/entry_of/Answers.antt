use Rattle.std.specs.Prelude.{◌∷◌}
use Rattle.desk_rows.specs.laws.Words.{[], nat_lt, refl, sym, arith, rules, IsPartitionPoint-from_clause}
use Rattle.desk_rows.specs.laws.Words.{IsPartitionedBy-ltb, IndexEntry}
use Rattle.desk_rows.proofs.Halving.{found_here, found_none}
use Rattle.desk_rows.proofs.Indexed.{entries_rise}
use Rattle.desk_rows.proofs.tables.index.entry_of.Goals as goal

abbrev nothing : IndexEntry
nothing = record { member = 0; place = 0 }

pub returns-then-at-index : goal.returns-then-at-index
returns-then-at-index c =
    let es = c.args.index.now in
    let n = c.args.member in
    let split = IsPartitionedBy-ltb (λ (e : IndexEntry). e.member) es n c.requires in
    let point =
    IsPartitionPoint-from_clause (λ (e : IndexEntry). nat_lt e.member n) es c.partition_point-at.result
    c.partition_point-at.ensures.partitioned split (λ a r q k. search rules) in
    let past = c.if-at-index.true in
    sym (found_none (λ (e : IndexEntry). e.member ∷ []) (n ∷ []) es c.partition_point-at.result nothing
    (entries_rise es c.requires) (λ x. refl) point (λ l. absurd (omega (arith, l, past))))

pub returns-then-entry-member : goal.returns-then-entry-member
returns-then-entry-member c =
    let es = c.args.index.now in
    let n = c.args.member in
    let split = IsPartitionedBy-ltb (λ (e : IndexEntry). e.member) es n c.requires in
    let point =
    IsPartitionPoint-from_clause (λ (e : IndexEntry). nat_lt e.member n) es c.partition_point-at.result
    c.partition_point-at.ensures.partitioned split (λ a r q k. search rules) in
    let within = c.if-at-index.false in
    sym (found_here (λ (e : IndexEntry). e.member ∷ []) (n ∷ []) es c.partition_point-at.result nothing point
    (omega (arith, within)) (grind (arith, c.if-entry-member.true)))

pub returns-else-entry-member : goal.returns-else-entry-member
returns-else-entry-member c =
    let es = c.args.index.now in
    let n = c.args.member in
    let split = IsPartitionedBy-ltb (λ (e : IndexEntry). e.member) es n c.requires in
    let point =
    IsPartitionPoint-from_clause (λ (e : IndexEntry). nat_lt e.member n) es c.partition_point-at.result
    c.partition_point-at.ensures.partitioned split (λ a r q k. search rules) in
    sym (found_none (λ (e : IndexEntry). e.member ∷ []) (n ∷ []) es c.partition_point-at.result nothing
    (entries_rise es c.requires) (λ x. refl) point (λ l. grind (arith, c.if-entry-member.false)))
