use Rattle.std.specs.Prelude.{◌≡◌}
use Rattle.desk_edit.proofs.Words.{true, sym, ◌∙◌, subst, Desk, good, fits_parts, after_fits, form_of, edit_for}
use Rattle.desk_edit.proofs.laws.good_desks_stay_good.Goals as goal
use Rattle.desk_edit.proofs.Outcomes.{planned, unopposed}

pub returns : goal.returns
returns c d command good_now allowed =
    let e = edit_for d (form_of command) in
    let p = planned d command good_now (unopposed d command allowed) in
    subst (λ (next : Desk). good next ≡ true) (sym (after_fits d e p.fits) ∙ p.leads) (fits_parts d e p.fits).later
