use Rattle.std.proofs.Common.{[], nat_eq, nat_lt, sym, ap, ◌∙◌, arith, rules}
use Rattle.std.proofs.lemmas.List.Sorted.{IsPartitionPoint-from_clause, IsPartitionedBy-ltb}
use Rattle.desk_edit.specs.InForce.{Entry, carried_out}
use Rattle.desk_revert.proofs.Numbered.{no_fall, made_none, made_at}
use Rattle.desk_calls.proofs.walking.is_made.Goals as goal

abbrev nothing : Entry
nothing = carried_out 0 []

pub returns-then-place-entries : goal.returns-then-place-entries
returns-then-place-entries g c =
    let es = c.args.entries.now in
    let n = c.args.number in
    let split = IsPartitionedBy-ltb (λ (e : Entry). e.number) es n (no_fall es c.requires) in
    let point =
    IsPartitionPoint-from_clause (λ (e : Entry). nat_lt e.number n) es c.partition_point-place.result
    c.partition_point-place.ensures.partitioned split (λ a r q k. search rules) in
    let past = c.if-place-entries.true in
    sym (made_none n es c.partition_point-place.result nothing c.requires point (λ l. absurd (omega (arith, l, past))))

pub returns : goal.returns
returns g c =
    let es = c.args.entries.now in
    let n = c.args.number in
    let split = IsPartitionedBy-ltb (λ (e : Entry). e.number) es n (no_fall es c.requires) in
    let point =
    IsPartitionPoint-from_clause (λ (e : Entry). nat_lt e.number n) es c.partition_point-place.result
    c.partition_point-place.ensures.partitioned split (λ a r q k. search rules) in
    let within = c.if-place-entries.false in
    let e : Entry = c.index-entries-place.result in
    made_at n es c.partition_point-place.result e c.requires point (omega (arith, within)) _
    (ap (λ k. nat_eq k n) c.number.ensures ∙ ap (λ (x : Entry). nat_eq x.number n) c.index-entries-place.is)
