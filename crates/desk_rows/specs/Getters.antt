-- What is in a row, and the row of a kind by its number.
use Rattle.std.specs.Prelude.{ℕ, Option, None, Some}
use Rattle.std.specs.Option.{option_and_then}
use Rattle.desk_rows.specs.declared.row.Row.{Row}
use Rattle.desk_rows.specs.declared.row.Row.TheVariants.{Room, Member, Source, Slot, Sub, Pin, Floor}
use Rattle.desk_rows.specs.declared.row.Room.{Room as RoomRow}
use Rattle.desk_rows.specs.declared.row.Member.{Member as MemberRow}
use Rattle.desk_rows.specs.declared.row.Source.{Source as SourceRow}
use Rattle.desk_rows.specs.declared.row.Slot.{Slot as SlotRow}
use Rattle.desk_rows.specs.declared.row.Sub.{Sub as SubRow}
use Rattle.desk_rows.specs.declared.row.Pin.{Pin as PinRow}
use Rattle.desk_rows.specs.declared.row.Floor.{Floor as FloorRow}
use Rattle.desk_rows.specs.declared.key.Key.TheVariants as keys
use Rattle.desk_rows.specs.Desk.{Desk, row_at}

-- ---- what is in a row

-- the room in a row
abbrev pub room_in : Row → Option RoomRow
room_in (Room r) = Some r
room_in _ = None

-- the member in a row
abbrev pub member_in : Row → Option MemberRow
member_in (Member m) = Some m
member_in _ = None

-- the source in a row
abbrev pub source_in : Row → Option SourceRow
source_in (Source s) = Some s
source_in _ = None

-- the slot in a row
abbrev pub slot_in : Row → Option SlotRow
slot_in (Slot s) = Some s
slot_in _ = None

-- the subscription in a row
abbrev pub sub_in : Row → Option SubRow
sub_in (Sub s) = Some s
sub_in _ = None

-- the pin in a row
abbrev pub pin_in : Row → Option PinRow
pin_in (Pin p) = Some p
pin_in _ = None

-- the floor in a row
abbrev pub floor_in : Row → Option FloorRow
floor_in (Floor f) = Some f
floor_in _ = None

-- ---- rows by their numbers

-- the room of this number
abbrev pub room_row_at : Desk → ℕ → Option RoomRow
room_row_at d room = option_and_then room_in (row_at d (keys.Room room))

-- the member of this number
abbrev pub member_at : Desk → ℕ → Option MemberRow
member_at d member = option_and_then member_in (row_at d (keys.Member member))

-- the source of this SSRC
abbrev pub source_at : Desk → ℕ → Option SourceRow
source_at d source = option_and_then source_in (row_at d (keys.Source source))

-- the slot of this SSRC
abbrev pub slot_at : Desk → ℕ → Option SlotRow
slot_at d out_ssrc = option_and_then slot_in (row_at d (keys.Slot out_ssrc))

-- the subscription of the slot of this SSRC
abbrev pub sub_at : Desk → ℕ → Option SubRow
sub_at d out_ssrc = option_and_then sub_in (row_at d (keys.Sub out_ssrc))

-- the pin of this room
abbrev pub pin_at : Desk → ℕ → Option PinRow
pin_at d room = option_and_then pin_in (row_at d (keys.Pin room))

-- the floor of this room
abbrev pub floor_at : Desk → ℕ → Option FloorRow
floor_at d room = option_and_then floor_in (row_at d (keys.Floor room))
