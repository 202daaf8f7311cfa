use Rattle.desk_rows.specs.laws.Words.{ap, sym, ◌∙◌, is_some}
use Rattle.desk_rows.specs.laws.Laws.{apt_parts}
use Rattle.reversible_rows.proofs.ChangeLemmas.{coming_is, puts_is}
use Rattle.desk_rows.proofs.Finding.{found_coming, found_gone, found_still}
use Rattle.reversible_rows.proofs.judging.overlay.OverlayLook.look.Goals as goal

pub returns-in-Some-clause-found : goal.returns-in-Some-clause-found
returns-in-Some-clause-found g c =
    let x = c.args.self.now.of in
    let there = coming_is x.edit.now c.args.key c.in-Some.row (sym c.coming.ensures ∙ c.in-Some.is) in
    sym (found_coming x.rows.now x.edit.now x.good (apt_parts x.rows.now x.edit.now x.apt) c.args.self.now.keyed
    c.args.key c.in-Some.row there.0 there.1)

pub returns-then-takes-clause-found : goal.returns-then-takes-clause-found
returns-then-takes-clause-found g c =
    let x = c.args.self.now.of in
    let absent = sym (puts_is x.edit.now c.args.key) ∙ ap is_some (sym c.coming.ensures ∙ c.in_default.is) in
    sym (found_gone x.rows.now x.edit.now x.good (apt_parts x.rows.now x.edit.now x.apt) c.args.self.now.keyed
    c.args.key absent (sym c.takes.ensures ∙ c.if-takes.true))

pub returns-clause-found : goal.returns-clause-found
returns-clause-found g c =
    let x = c.args.self.now.of in
    let absent = sym (puts_is x.edit.now c.args.key) ∙ ap is_some (sym c.coming.ensures ∙ c.in_default.is) in
    c.find.ensures.row
    ∙ sym (found_still x.rows.now x.edit.now x.good (apt_parts x.rows.now x.edit.now x.apt) c.args.self.now.keyed
    c.args.key absent (sym c.takes.ensures ∙ c.if-takes.false))
