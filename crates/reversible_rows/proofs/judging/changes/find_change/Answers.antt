use Rattle.std.specs.Prelude.{◌++◌}
use Rattle.desk_rows.specs.declared.row.Row.TheVariants.{Member}
use Rattle.desk_rows.specs.declared.edit.Placed.{Placed}
use Rattle.desk_rows.specs.laws.Words.{sym, ◌∙◌, map, has_key}
use Rattle.desk_rows.proofs.KindLemmas.{found_first, found_later}
use Rattle.reversible_rows.proofs.judging.changes.find_change.Goals as goal

pub returns-in-Some : goal.returns-in-Some
returns-in-Some c =
    sym (found_first (has_key c.args.key) (map (λ (p : Placed). Member p.row) c.args.placed.now)
    (c.args.rows.now ++ c.args.more.now) c.in-Some.row (sym c.find_placed.ensures ∙ c.in-Some.is))

pub returns-in-Some-find_row : goal.returns-in-Some-find_row
returns-in-Some-find_row c =
    sym (found_later (has_key c.args.key) (map (λ (p : Placed). Member p.row) c.args.placed.now)
    (c.args.rows.now ++ c.args.more.now) (sym c.find_placed.ensures ∙ c.in_default.is)
    ∙ found_first (has_key c.args.key) c.args.rows.now c.args.more.now c.in-Some-find_row.row
    (sym c.find_row.ensures ∙ c.in-Some-find_row.is))

pub returns : goal.returns
returns c =
    c.find_row-2.ensures
    ∙ sym (found_later (has_key c.args.key) (map (λ (p : Placed). Member p.row) c.args.placed.now)
    (c.args.rows.now ++ c.args.more.now) (sym c.find_placed.ensures ∙ c.in_default.is)
    ∙ found_later (has_key c.args.key) c.args.rows.now c.args.more.now
    (sym c.find_row.ensures ∙ c.in_default-find_row.is))
