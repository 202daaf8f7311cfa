use Rattle.desk_rows.specs.laws.Words.{arith, same_row}
use Rattle.desk_rows.specs.laws.Equal.{row_itself}
use Rattle.desk_rows.proofs.GroupLemmas.{first_passes}
use Rattle.desk_rows.proofs.tables.following.take_each.Goals as goal

pub take_entry-requires-clause-there : goal.take_entry-requires-clause-there
take_entry-requires-clause-there g c =
    let as_row = g.T.Grouped.as_row in
    let one = c.in-Some-in_row.one in
    let q = λ (x : g.row.T.Denot). same_row (as_row x) (as_row one) in
    let first =
    first_passes g.T.Grouped.in_row q one c.in-Some.row.now c.in-Some.later.now c.loop-row.rest.now
    c.in-Some.ensures.cases.0 c.in-Some-in_row.ensures (row_itself (as_row one)) in
    omega (arith, first, c.loop-row.invariant.there q)
