use Rattle.std.proofs.Common.{◌≡◌, List, IfOk, ap, subst, ◌∙◌}
use Rattle.std.specs.Prelude.{option_and_then}
use Rattle.std.specs.List.{filter_map}
use Rattle.desk_rows.specs.Getters.{slot_in}
use Rattle.picture_requests.specs.declared.choosing.SlotChoice.{SlotChoice}
use Rattle.picture_requests.specs.Choices.{slot_choice}
use Rattle.picture_requests.proofs.Listed.{from_rows}
use Rattle.picture_requests.proofs.choosing.choices_of.Goals as goal

pub returns : goal.returns
returns g c =
    let d = c.args.rows.now in
    let is =
    ap (filter_map (λ r. option_and_then (slot_choice d) (slot_in r))) c.others_of.ensures.rows ∙ from_rows d in
    subst (λ (xs : List SlotChoice). IfOk c.choices_in.result (λ v. v.items ≡ xs)) is c.choices_in.ensures
