use Rattle.desk_rows.specs.laws.Words.{not, sym, ap, ◌∙◌, list_all, in_order, precedes}
use Rattle.std.proofs.lemmas.List.{nil_from_length}
use Rattle.desk_rows.proofs.Halving.{rest_fails}
use Rattle.desk_rows.proofs.SlidingLemmas.{none_ahead}
use Rattle.desk_rows.proofs.tables.sweeping.parted_at.Goals.{in-Some+else-precedes, in_default}
use Rattle.desk_rows.proofs.tables.sweeping.parted_at.Goals as goal

pub returns-then-precedes-clause-behind : goal.returns-then-precedes-clause-behind
returns-then-precedes-clause-behind c =
    let row = c.args.row.now in
    ap (list_all (λ x. not (precedes x row))) c.split_at.ensures.back
    ∙ rest_fails (λ x. precedes x row) c.args.rows.now c.place_of.result c.place_of.ensures.parts

pub returns-clause-behind : goal.returns-clause-behind
returns-clause-behind c =
    let row = c.args.row.now in
    let none = list_all (λ x. not (precedes x row)) in
    ap none c.split_at-2.ensures.back ∙ elim c.match-split_first.branch [
      | in-Some+else-precedes w ↦
          let rows = w.in-Some.ensures.cases.0 in
          ap none rows
          ∙ none_ahead row w.in-Some.first.now w.in-Some.field-0-1.now (ap in_order (sym rows) ∙ c.requires)
          (sym w.precedes.ensures ∙ w.if-precedes.false)
      | in_default w ↦ ap none (nil_from_length c.args.rows.now w.in_default.ensures.cases)
    ]
