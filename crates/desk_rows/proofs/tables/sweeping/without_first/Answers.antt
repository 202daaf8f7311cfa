use Rattle.desk_rows.specs.laws.Words.{true, false, sym, ◌∙◌}
use Rattle.desk_rows.proofs.SlidingLemmas.{first_left}
use Rattle.desk_rows.proofs.tables.sweeping.without_first.Goals as goal

pub returns-then-is_same : goal.returns-then-is_same
returns-then-is_same c =
    let same = sym c.is_same.ensures ∙ c.if-is_same.true in
    first_left c.args.row.now c.in-Some.first.now c.in-Some.later.now c.args.rows.now true c.in-Some.ensures.cases.0
    c.requires.order c.requires.behind same

pub returns-else-is_same : goal.returns-else-is_same
returns-else-is_same c =
    let other = sym c.is_same.ensures ∙ c.if-is_same.false in
    first_left c.args.row.now c.in-Some.first.now c.in-Some.later.now c.args.rows.now false c.in-Some.ensures.cases.0
    c.requires.order c.requires.behind other
