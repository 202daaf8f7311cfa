use Rattle.desk_rows.specs.laws.Words.{subst, rules, IsPermutation, IsNonDecreasingBy-from_sort_by_key, IndexEntry}
use Rattle.desk_rows.proofs.Indexed.{gives_places}
use Rattle.desk_rows.proofs.tables.index.index_members.Goals as goal

pub returns-clause-index : goal.returns-clause-index
returns-clause-index g c =
    let sorted = c.sort_unstable_by_key.new.self.items in record {
      sorted =
          IsNonDecreasingBy-from_sort_by_key (λ (e : IndexEntry). e.member) sorted c.sort_unstable_by_key.ensures.sorted
          (λ a r f' k. search rules);
      places =
          gives_places c.args.members.now sorted c.requires.numbers
          (subst (λ es. IsPermutation es sorted) c.list_places.ensures.items
          c.sort_unstable_by_key.ensures.permutation);
    }
