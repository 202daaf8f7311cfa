use Rattle.desk_rows.specs.laws.Words.{true, arith}
use Rattle.desk_rows.specs.laws.ListLaws.{count_all}
use Rattle.desk_rows.proofs.tables.following.exchange_each.Goals as goal

pub put_each-requires-clause-capacity : goal.put_each-requires-clause-capacity
put_each-requires-clause-capacity g c =
    let first = c.take_each.ensures.taken (λ x. true) in
    let second = c.take_each-2.ensures.taken (λ x. true) in
    omega (
      arith,
      first,
      second,
      c.requires.capacity,
      count_all c.take_each-2.new.table.items,
      c.take_each.ensures.capacity,
      c.take_each-2.ensures.capacity,
    )

pub put_each-requires-2-clause-capacity : goal.put_each-requires-2-clause-capacity
put_each-requires-2-clause-capacity g c =
    let first = c.take_each.ensures.taken (λ x. true) in
    let second = c.take_each-2.ensures.taken (λ x. true) in
    omega (
      arith,
      first,
      second,
      c.requires.capacity,
      c.put_each.ensures.put (λ x. true),
      count_all c.put_each.new.table.items,
      c.take_each.ensures.capacity,
      c.take_each-2.ensures.capacity,
      c.put_each.ensures.capacity,
    )
