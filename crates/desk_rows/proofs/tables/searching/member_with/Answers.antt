use Rattle.desk_rows.specs.laws.Words.{None, Some, sym, ◌∙◌}
use Rattle.desk_rows.proofs.Indexed.{row_found}
use Rattle.desk_rows.proofs.tables.searching.member_with.Goals as goal

pub returns-in-None : goal.returns-in-None
returns-in-None c =
    sym (row_found c.args.members.now c.args.index.now c.args.number None c.requires
    (sym c.entry_of.ensures ∙ c.in-None.is))

pub returns-in-Some : goal.returns-in-Some
returns-in-Some c =
    c.member_row.ensures.row
    ∙ sym (row_found c.args.members.now c.args.index.now c.args.number (Some c.in-Some.entry) c.requires
    (sym c.entry_of.ensures ∙ c.in-Some.is))
