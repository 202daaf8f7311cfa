-- Commands that are carried out again, on a desk as if another call had never been made.
use Rattle.std.specs.Prelude.{ℕ, ◌+◌, Bool, true, false, not, ◌&&◌, List, [], ◌∷◌, ◌++◌, map, filter, Option, Some}
use Rattle.std.specs.Prelude.{None}
use Rattle.std.specs.Prelude.{if◌then◌else◌}
use Rattle.desk_rows.specs.Row.{key_of}
use Rattle.desk_rows.specs.Desk.{Desk, rows_of, holds, room_of_member, row_at, same_room}
use Rattle.desk_rows.specs.declared.key.Key.{Key}
use Rattle.desk_rows.specs.declared.key.Key.TheVariants as keys
use Rattle.desk_edit.specs.declared.command.Command.{Command}
use Rattle.desk_edit.specs.declared.command.Form.{Form}
use Rattle.desk_edit.specs.declared.command.Form.TheVariants.{Put, Remove, Move}
use Rattle.desk_edit.specs.declared.refusal.Reason.{Reason}
use Rattle.desk_edit.specs.declared.refusal.GroupRefusal.{GroupRefusal}
use Rattle.desk_edit.specs.Forms.{form_of}
use Rattle.desk_edit.specs.Commands.{desk_after}
use Rattle.desk_edit.specs.Groups.{part_or_later}
use Rattle.desk_edit.specs.Refusals.{has, is_replaced, reason_against}

-- what the form asks for is so already: the row stands as it would be, there is no row to take, or the member is in the
-- room
abbrev pub is_so : Desk → Form → Bool
is_so d (Put r) = is_replaced r && holds d r
is_so d (Remove key) = not (has d key)
is_so d (Move member room) = same_room (room_of_member (row_at d (keys.Member member))) (Some room)

-- a command that would change nothing, since what it asks for is so already
abbrev pub is_idle : Desk → Command → Bool
is_idle d command = is_so d (form_of command)

-- what stands in the way of carrying a command out again: no reason against one that is idle
abbrev pub in_the_way : Desk → Command → Option Reason
in_the_way d command = if is_idle d command then None else reason_against d command

-- the first command that stands in the way when all are carried out again, one after another; the first of all has this
-- number
abbrev pub first_in_the_way : ℕ → Desk → List Command → Option GroupRefusal
first_in_the_way part d [] = None
first_in_the_way part d (command ∷ commands) =
    part_or_later part (in_the_way d command) (first_in_the_way (part + 1) (desk_after d command) commands)

-- the row of this key is on one of the two desks alone
abbrev pub is_moved : Desk → Desk → Key → Bool
is_moved d e key = if has d key then not (has e key) else has e key

-- a room, member, source or slot: who is in the call, and where. All other rows follow the calls in force
abbrev pub is_standing : Key → Bool
is_standing (keys.Room room) = true
is_standing (keys.Member member) = true
is_standing (keys.Source ssrc) = true
is_standing (keys.Slot out_ssrc) = true
is_standing (keys.Sub out_ssrc) = false
is_standing (keys.Mute source) = false
is_standing (keys.Gain member source) = false
is_standing (keys.Pin room) = false
is_standing (keys.Floor room) = false

-- the keys of those that come or go from one desk to another: first as they stand on the one, then as on the other
abbrev pub moved_keys : Desk → Desk → List Key
moved_keys d e = filter (λ key. is_standing key && is_moved d e key) (map key_of (rows_of d ++ rows_of e))
