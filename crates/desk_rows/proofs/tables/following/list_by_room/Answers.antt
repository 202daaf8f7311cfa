use Rattle.std.specs.Prelude.{◌≡◌}
use Rattle.desk_rows.specs.laws.Words.{ap, ◌∙◌, arith, rules, count_by, always_returns_same, MemberRow as Member}
use Rattle.desk_rows.proofs.GroupLemmas.{count_moved, sorted_stands}
use Rattle.desk_rows.proofs.tables.following.list_by_room.Goals as goal

pub returns-clause-table : goal.returns-clause-table
returns-clause-table g c =
    let sorted = c.sort_unstable_by_key.new.self.items in
    record {
      order =
          sorted_stands (λ (m : Member). m.room) (λ m. m.member) sorted (c.sort_unstable_by_key.ensures.sorted
          (λ m. (m.room, m.member))
          (always_returns_same _ (λ a r. r ≡ (a.0.now.room, a.0.now.member)) _ (λ a r f' k. search rules)));
      same = λ p.
          count_moved p c.extend_from_slice.new.self.items sorted c.sort_unstable_by_key.ensures.permutation
          ∙ ap (count_by p)
          (let listed : c.extend_from_slice.new.self.items ≡ c.args.members.now = grind arith in listed);
    }
