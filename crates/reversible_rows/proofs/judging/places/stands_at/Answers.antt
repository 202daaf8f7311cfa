use Rattle.std.specs.Prelude.{◌<◌}
use Rattle.desk_rows.specs.laws.Words.{length, ◌∙◌, arith}
use Rattle.desk_rows.proofs.Loops.{is_at_read, is_at_past}
use Rattle.reversible_rows.proofs.judging.places.stands_at.Goals as goal

pub returns-then-place-members : goal.returns-then-place-members
returns-then-place-members c =
    let l : c.args.place < length c.args.members.now = omega arith in
    c.is_same.ensures ∙ is_at_read c.args.members.now c.args.place c.args.row.now _ l

pub returns-else-place-members : goal.returns-else-place-members
returns-else-place-members c = grind (arith, is_at_past)
