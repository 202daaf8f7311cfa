-- Rows of one kind by the row that they name.
use Rattle.std.specs.Prelude.{ℕ, Bool, false, List, filter, nat_eq}
use Rattle.std.specs.List.{filter_map}
use Rattle.desk_rows.specs.declared.row.Row.{Row}
use Rattle.desk_rows.specs.declared.row.Member.{Member as MemberRow}
use Rattle.desk_rows.specs.declared.row.Row.TheVariants.{Gain}
use Rattle.desk_rows.specs.declared.row.Slot.{Slot as SlotRow}
use Rattle.desk_rows.specs.declared.row.Sub.{Sub as SubRow}
use Rattle.desk_rows.specs.Desk.{Desk}
use Rattle.desk_rows.specs.Getters.{slot_in, sub_in}

-- the members of this room, by place
abbrev pub members_in : Desk → ℕ → List MemberRow
members_in d room = filter (λ m. nat_eq m.room room) d.members

-- the subscriptions that name this source, by the SSRC of their slots
abbrev pub subs_naming : Desk → ℕ → List SubRow
subs_naming d source = filter (λ s. nat_eq s.source source) (filter_map sub_in d.others)

-- the slots that name this member, by their SSRC
abbrev pub slots_naming : Desk → ℕ → List SlotRow
slots_naming d member = filter (λ s. nat_eq s.member member) (filter_map slot_in d.others)

-- a gain of this member
abbrev pub is_gain_of : ℕ → Row → Bool
is_gain_of member (Gain g) = nat_eq g.member member
is_gain_of member _ = false

-- the gains of this member, by the SSRC of their sources
abbrev pub gains_naming : Desk → ℕ → List Row
gains_naming d member = filter (is_gain_of member) d.others
