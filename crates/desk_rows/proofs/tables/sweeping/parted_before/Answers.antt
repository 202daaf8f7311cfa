use Rattle.desk_rows.specs.laws.Words.{not, sym, ◌∙◌, list_all, precedes}
use Rattle.std.proofs.Math.Bool.{not-not}
use Rattle.desk_rows.proofs.Halving.{rest_fails}
use Rattle.desk_rows.proofs.tables.sweeping.parted_before.Goals as goal

pub returns-clause-behind : goal.returns-clause-behind
returns-clause-behind c =
    let row = c.args.row.now in
    (λ i. list_all (λ x. sym (not-not (precedes row x)) i) (c.split_at-2.ensures.back i))
    ∙ rest_fails (λ x. not (precedes row x)) c.args.rows.now c.place_before.result c.place_before.ensures.parts
