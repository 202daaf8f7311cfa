use Rattle.std.specs.Prelude.{◌≡◌}
use Rattle.desk_rows.specs.laws.Words.{ap, ◌∙◌, arith, rules, count_by, answers_always, ip_and_port}
use Rattle.desk_rows.proofs.GroupLemmas.{count_moved}
use Rattle.desk_rows.proofs.tables.addressing.list_by_address.Goals as goal

pub returns-clause-table : goal.returns-clause-table
returns-clause-table g c =
    record {
      order = c.sort_unstable_by_key.ensures.sorted ip_and_port (answers_always _ _ _ (λ f a r k called. search rules));
      same = λ p.
          count_moved p c.extend_from_slice.new.self.items c.sort_unstable_by_key.new.self.items
          c.sort_unstable_by_key.ensures.permutation
          ∙ ap (count_by p)
          (let listed : c.extend_from_slice.new.self.items ≡ c.args.members.now = grind arith in listed);
    }
