-- The rows of one room of a desk (own).
use Rattle.std.specs.Prelude.{ℕ, Bool, ◌||◌, filter, Some}
use Rattle.std.specs.List.{list_any}
use Rattle.desk_rows.specs.declared.row.Row.{Row}
use Rattle.desk_rows.specs.Row.{names}
use Rattle.desk_rows.specs.Naming.{members_in}
use Rattle.desk_rows.specs.Desk.{Desk, room_of, room_at, same_room}

-- a row is in a room: by itself, or by a row that it names
abbrev pub is_in_room : Desk → ℕ → Row → Bool
is_in_room d room r =
    same_room (room_of d r) (Some room) || list_any (λ key. same_room (room_at d key) (Some room)) (names r)

-- the rows of a room: its members in joining order, and all others that are in it
abbrev pub room_rows : Desk → ℕ → Desk
room_rows d room = record d { members = members_in d room; others = filter (is_in_room d room) d.others }
