use Rattle.std.specs.Prelude.{◌≡◌}
use Rattle.desk_rows.specs.laws.Words.{false, ap, sym, ◌∙◌, Row, is_of, passes_in, count_by}
use Rattle.desk_rows.proofs.GroupLemmas.{count_of_kind}
use Rattle.desk_rows.proofs.tables.following.rows_in.Goals as goal

pub returns-clause-same : goal.returns-clause-same
returns-clause-same g c p =
    let none = λ (r : Row) (h : is_of c.kind.result r ≡ false).
    g.met.T.Grouped.of_kind r (ap (λ k. is_of k r) (sym c.kind.ensures) ∙ h) in
    ap (count_by (passes_in g.T.Grouped.in_row p)) c.rows_of_kind.ensures
    ∙ count_of_kind c.kind.result g.T.Grouped.in_row none p c.args.rows.now
