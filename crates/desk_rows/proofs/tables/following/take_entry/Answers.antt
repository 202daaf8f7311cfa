use Rattle.desk_rows.specs.laws.Words.{ap, ◌∙◌, stand_by, in_turn}
use Rattle.desk_rows.proofs.GroupLemmas.{stand_by-remove}
use Rattle.desk_rows.proofs.tables.following.take_entry.Goals as goal

pub returns-clause-order : goal.returns-clause-order
returns-clause-order g c =
    let may = in_turn g.T.Grouped.group g.T.Grouped.turn in
    ap (stand_by may) c.remove.ensures.items
    ∙ stand_by-remove may c.args.table.now.items c.find_entry-place.result c.requires.order
