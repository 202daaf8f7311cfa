use Rattle.desk_rows.specs.laws.Words.{sym, ◌∙◌}
use Rattle.desk_rows.specs.laws.Laws.{apt_parts}
use Rattle.reversible_rows.proofs.NewKeys.{keyed_later}
use Rattle.reversible_rows.proofs.judging.exchange.RowExchange.is_good.Goals as goal

pub invariant_of-later : goal.invariant_of-later
invariant_of-later g c =
    let x = c.args.self in
    record {
      keyed =
          keyed_later x.rows.now x.edit.now x.good (apt_parts x.rows.now x.edit.now x.apt)
          (sym c.is_plain.ensures ∙ c.if-not-is_plain.false) (sym c.keys_are_new.ensures ∙ c.if-not-keys_are_new.false);
    }
