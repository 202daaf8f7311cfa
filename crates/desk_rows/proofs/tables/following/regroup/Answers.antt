use Rattle.std.specs.Prelude.{◌≡◌}
use Rattle.desk_rows.specs.laws.Words.{subst, ◌∙◌, rules, IsPermutation, always_returns_same}
use Rattle.desk_rows.proofs.GroupLemmas.{count_in, count_moved, sorted_stands}
use Rattle.desk_rows.proofs.tables.following.regroup.Goals as goal

pub returns-clause-table : goal.returns-clause-table
returns-clause-table g c =
    let in_row = g.T.Grouped.in_row in
    let group = g.T.Grouped.group in
    let turn = g.T.Grouped.turn in
    let sorted = c.sort_unstable_by_key.new.self.items in
    let moved =
    subst (λ xs. IsPermutation xs sorted) c.list_anew.ensures.items c.sort_unstable_by_key.ensures.permutation in
    record {
      order =
          sorted_stands group turn sorted (c.sort_unstable_by_key.ensures.sorted (λ x. (group x, turn x))
          (always_returns_same _ (λ a r. r ≡ (group a.0.now, turn a.0.now)) _ (λ a r f' k. search rules)));
      same = λ p. count_moved p _ sorted moved ∙ count_in in_row p c.args.rows.now;
    }
