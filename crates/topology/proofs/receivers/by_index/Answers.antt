use Rattle.std.proofs.Common.{rules}
use Rattle.std.proofs.lemmas.List.Sorted.{IsNonDecreasingBy-from_sort_by_key}
use Rattle.desk_rows.specs.declared.row.Slot.{Slot}
use Rattle.topology.proofs.Seats.{same_groups, rising_by_index}
use Rattle.topology.proofs.receivers.by_index.Goals as goal

pub returns : goal.returns
returns g c =
    let slots = c.args.slots.now.items in
    let sorted = c.sort_by_key.new.self.items in
    let index = λ (s : Slot). s.index in
    rising_by_index slots sorted c.requires
    (IsNonDecreasingBy-from_sort_by_key index sorted c.in_ok-sort_by_key.ensures.sorted (λ a r f' k. search rules))
    (same_groups index slots sorted c.sort_by_key.ensures.stable (λ a r f' k. search rules))
