use Rattle.desk_rows.specs.laws.Words.{sym, ◌∙◌, arith, rules, IsPartitionPoint-from_clause, Room, key_of, key_precedes}
use Rattle.desk_rows.proofs.Halving.{parted, key_falls, row_here, row_none}
use Rattle.desk_rows.proofs.ordering.find_row.Goals as goal

pub returns-then-place-rows : goal.returns-then-place-rows
returns-then-place-rows c =
    let xs = c.args.rows.now in
    let key = c.args.key in
    let split = parted (λ x. key_precedes (key_of x) key) (key_falls key) xs c.requires in
    let point =
    IsPartitionPoint-from_clause (λ x. key_precedes (key_of x) key) xs c.partition_point-place.result
    c.partition_point-place.ensures.partitioned split (λ a r q k. search rules) in
    let past = c.if-place-rows.true in
    sym (row_none key xs c.partition_point-place.result (Room record { room = 0; rate = 0 }) c.requires point
    (λ l. absurd (omega (arith, l, past))))

pub returns-then-has_key : goal.returns-then-has_key
returns-then-has_key c =
    let xs = c.args.rows.now in
    let key = c.args.key in
    let split = parted (λ x. key_precedes (key_of x) key) (key_falls key) xs c.requires in
    let point =
    IsPartitionPoint-from_clause (λ x. key_precedes (key_of x) key) xs c.partition_point-place.result
    c.partition_point-place.ensures.partitioned split (λ a r q k. search rules) in
    let within = c.if-place-rows.false in
    sym (row_here key xs c.partition_point-place.result (Room record { room = 0; rate = 0 }) point
    (omega (arith, within)) (sym c.has_key.ensures ∙ c.if-has_key.true))

pub returns-else-has_key : goal.returns-else-has_key
returns-else-has_key c =
    let xs = c.args.rows.now in
    let key = c.args.key in
    let split = parted (λ x. key_precedes (key_of x) key) (key_falls key) xs c.requires in
    let point =
    IsPartitionPoint-from_clause (λ x. key_precedes (key_of x) key) xs c.partition_point-place.result
    c.partition_point-place.ensures.partitioned split (λ a r q k. search rules) in
    sym (row_none key xs c.partition_point-place.result (Room record { room = 0; rate = 0 }) c.requires point
    (λ l. sym c.has_key.ensures ∙ c.if-has_key.false))
