use Rattle.std.specs.Prelude.{◌∷◌}
use Rattle.std.specs.Option.{option_or}
use Rattle.desk_edit.proofs.Words.{[], sym, ap, ◌∙◌, listed, first_case, lacking}
use Rattle.desk_edit.proofs.refusing.lacks_any.Goals as goal
use Rattle.desk_edit.proofs.Cases.{first_of_both}

pub returns-in-Two : goal.returns-in-Two
returns-in-Two g c =
    let d = c.args.rows.now in
    c.or_next.ensures ∙ (λ i. option_or (c.lacks-in-Two.ensures i) (c.lacks-in-Two-2.ensures i))
    ∙ sym (first_of_both (lacking d (c.in-Two.key ∷ [])) (lacking d (c.in-Two.other ∷ [])))
    ∙ sym (ap (λ ns. first_case (lacking d (listed ns))) c.in-Two.is)
