-- Which source each slot of a desk chose, and to which sources choices changed (own).
use Rattle.std.specs.Prelude.{ℕ, Bool, not, ◌&&◌, nat_eq, List, map, filter, Option, option_map, option_and_then}
use Rattle.std.specs.List.{list_any, filter_map}
use Rattle.desk_rows.specs.declared.row.Slot.{Slot as SlotRow}
use Rattle.desk_rows.specs.Desk.{Desk}
use Rattle.topology.specs.Looking.{member_at, sender_of}
use Rattle.topology.specs.Choice.{choice}
use Rattle.topology.specs.Receivers.{slots_of}
use Rattle.picture_requests.specs.declared.source.VideoSource.{VideoSource}
use Rattle.picture_requests.specs.declared.choosing.SlotChoice.{SlotChoice}
use Rattle.picture_requests.specs.Sources.{source_at, same_source, each_once}

-- ---- on one desk

-- the source of this SSRC at the address of its member
abbrev pub source_of_desk : Desk → ℕ → Option VideoSource
source_of_desk d ssrc = option_map (λ m. source_at ssrc m.address) (option_and_then (member_at d) (sender_of d ssrc))

-- the source that the slot of this SSRC chose
abbrev pub chosen_source : Desk → ℕ → Option VideoSource
chosen_source d out_ssrc = option_and_then (source_of_desk d) (choice d out_ssrc)

-- a slot with the source that it chose
abbrev pub slot_choice : Desk → SlotRow → Option SlotChoice
slot_choice d slot = option_map (λ s. record { out_ssrc = slot.out_ssrc; source = s }) (chosen_source d slot.out_ssrc)

-- the choices of all slots that have one, on a good desk by rising SSRC of the slots
abbrev pub choices_of : Desk → List SlotChoice
choices_of d = filter_map (slot_choice d) (slots_of d)

-- ---- on one desk and a later one

-- whether two are one choice: the same source for the same slot
abbrev pub same_choice : SlotChoice → SlotChoice → Bool
same_choice a b = nat_eq a.out_ssrc b.out_ssrc && same_source a.source b.source

-- the sources of choices
abbrev pub chosen_sources : List SlotChoice → List VideoSource
chosen_sources choices = map (λ c. c.source) choices

-- the sources to which choices changed: those of the later choices that are not among the earlier ones
abbrev pub changed_to : List SlotChoice → List SlotChoice → List VideoSource
changed_to before after = chosen_sources (filter (λ c. not (list_any (same_choice c) before)) after)

-- the same, each source once
abbrev pub newly_chosen : List SlotChoice → List SlotChoice → List VideoSource
newly_chosen before after = each_once (changed_to before after)
