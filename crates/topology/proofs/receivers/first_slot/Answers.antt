use Rattle.std.proofs.Common.{◌∙◌}
use Rattle.desk_rows.specs.Naming.{slots_naming}
use Rattle.desk_rows.specs.laws.PlacesOnce.{of_index}
use Rattle.topology.proofs.Parted.{found_same}
use Rattle.topology.proofs.receivers.first_slot.Goals as goal

pub returns : goal.returns
returns g c =
    c.copied.ensures
    ∙ c.first_of.ensures
    ∙ found_same (of_index 0) c.slots_of.result.now (slots_naming c.args.rows.now c.args.member)
    (c.slots_of.ensures.exactly 0)
