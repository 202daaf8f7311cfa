-- Groups of commands: the desk that one makes, and what stands against others first.
use Rattle.std.specs.Prelude.{List, [], ◌∷◌, Option, None, Some}
use Rattle.desk_rows.specs.Desk.{Desk}
use Rattle.desk_rows.specs.Edit.{EditOf}
use Rattle.desk_edit.specs.declared.command.Command.{Command}
use Rattle.desk_edit.specs.declared.refusal.Reason.TheVariants as reasons
use Rattle.desk_edit.specs.declared.refusal.Refusal.{Refusal}
use Rattle.desk_edit.specs.declared.refusal.Refusal.TheVariants.{EmptyGroup, GroupTooLong, PartRefused}
use Rattle.desk_edit.specs.declared.refusal.Table.TheVariants.{Rooms}
use Rattle.worked_desk.specs.Rows.{member, room, video, audio, slot, sub}
use Rattle.worked_desk.specs.TwoRooms.{ten, eleven, two_rooms}
use Rattle.worked_desk.specs.Edits.{puts}
use Rattle.worked_desk.specs.Commands.{add_room, remove_room, add_member, remove_member, add_video, remove_slot}
use Rattle.worked_desk.specs.FullDesks.{from_on}

-- member 12 goes, and member 13 comes with its port and the SSRCs of its mix and its source
abbrev pub handing_over : List Command
handing_over = remove_member 12 ∷ add_member 13 2 5002 9003 ∷ add_video 103 13 ∷ []

abbrev pub handed_over : Desk
handed_over = record two_rooms {
  members = ten ∷ eleven ∷ member 13 2 5002 9003 ∷ [];
  others = room 1 ∷ room 2 ∷ video 101 10 ∷ audio 102 10 ∷ video 103 13 ∷ slot 501 11 0 ∷ sub 501 101 ∷ [];
}

-- groups at the two rooms, and what stands against them first
abbrev pub grouping : List (List Command × Option Refusal)
grouping =
    -- no command
    ([], Some EmptyGroup)
    -- 65 commands, whatever stands against the first
    ∷ (from_on add_room 1 65, Some (GroupTooLong 64))
    -- what a part wants is there, because a part before it put it
    ∷ (handing_over, None)
    -- a part is refused at the desk that those before it leave, and is told by its number, from 0
    ∷ (add_room 3 ∷ add_member 13 3 5003 9004 ∷ add_video 104 14 ∷ [], Some (PartRefused 2 reasons.NoMember))
    -- what a part names is gone with a part before it
    ∷ (remove_slot 501 ∷ remove_slot 501 ∷ [], Some (PartRefused 1 reasons.NoSlot))
    -- the first part that is refused is told, and not the least refusal
    ∷ (remove_slot 503 ∷ add_room 1 ∷ [], Some (PartRefused 0 reasons.NoSlot))
    -- parts that cancel out
    ∷ (add_room 3 ∷ remove_room 3 ∷ [], None)
    ∷ []

-- groups at an empty desk: 64 parts that fill its table of rooms
abbrev pub grouping_at_once : List (List Command × Option Refusal)
grouping_at_once = (from_on add_room 1 64, None) ∷ []

-- groups at 63 rooms: the last room, and one past it
abbrev pub grouping_at_63_rooms : List (List Command × Option Refusal)
grouping_at_63_rooms =
    (add_room 64 ∷ [], None)
    ∷ (add_room 64 ∷ add_room 65 ∷ [], Some (PartRefused 1 (reasons.Full Rooms 64)))
    ∷ []

-- lists of edits of the two rooms, and the desk that they make as one edit
abbrev pub absorbing_lists : List (List EditOf × Desk)
absorbing_lists =
    -- nothing
    ([], two_rooms)
    -- the second edit doesn't fit, so the first is taken back
    ∷ (puts [] (room 3 ∷ []) ∷ puts [] (room 3 ∷ []) ∷ [], two_rooms)
    ∷ []
