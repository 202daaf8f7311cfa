use Rattle.std.proofs.Common.{◌≡◌, [], ap, sym, ◌∙◌}
use Rattle.std.proofs.lemmas.Bool.{eqb-true}
use Rattle.std.proofs.lemmas.List.{nil_from_length}
use Rattle.desk_rows.specs.Naming.{gains_naming}
use Rattle.topology.specs.inner.Audible.{gain_among}
use Rattle.topology.proofs.OwnGains.{told_by_own}
use Rattle.topology.proofs.hearing.hears_in_full.Goals as goal

pub returns-clause-full : goal.returns-clause-full
returns-clause-full g c yes_full source =
    let d = c.args.rows.now in
    let m = c.args.member in
    let none : gains_naming d m ≡ [] =
    sym c.gains_of.ensures.gains ∙ nil_from_length _ (eqb-true _ 0 (sym c.is_empty.ensures ∙ yes_full)) in
    sym (told_by_own d m source) ∙ ap (λ own. gain_among own m source) none
