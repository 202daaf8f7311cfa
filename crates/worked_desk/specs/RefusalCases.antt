-- Commands and their first refusals, out of memory apart; None where there is none.
use Rattle.std.specs.Prelude.{List, [], ◌∷◌, Option, None, Some}
use Rattle.desk_edit.specs.declared.command.Command.{Command}
use Rattle.desk_edit.specs.declared.refusal.Refusal.{Refusal}
use Rattle.desk_edit.specs.declared.refusal.Refusal.TheVariants.{Exists, NoRoom, NoMember, NoSource, NoSlot, WrongKind}
use Rattle.desk_edit.specs.declared.refusal.Refusal.TheVariants.{OtherRoom, SsrcTaken, BadValue, Already}
use Rattle.worked_desk.specs.Commands.{add_room, add_member, add_video, add_audio, add_slot, remove_slot, subscribe}

-- ---- two rooms

-- a room: Exists
abbrev pub adding_rooms : List (Command × Option Refusal)
adding_rooms =
    -- its number is there
    (add_room 1, Some Exists)
    -- the least number
    ∷ (add_room 0, None)
    -- the greatest
    ∷ (add_room 4294967295, None)
    ∷ []

-- a member: Exists (its number, or its address), NoRoom, SsrcTaken (of its mix), BadValue (port 0)
abbrev pub adding_members : List (Command × Option Refusal)
adding_members =
    -- its number is there
    (add_member 10 1 5009 9009, Some Exists)
    -- its address is there
    ∷ (add_member 13 1 5000 9009, Some Exists)
    -- its address is there, and its room is not
    ∷ (add_member 13 3 5001 9009, Some Exists)
    -- its room is not there
    ∷ (add_member 13 3 5009 9009, Some NoRoom)
    -- nor has it a port or an SSRC
    ∷ (add_member 13 3 0 101, Some NoRoom)
    -- its mix has the bridge's SSRC
    ∷ (add_member 13 1 5009 1, Some SsrcTaken)
    -- a source's
    ∷ (add_member 13 1 5009 102, Some SsrcTaken)
    -- a slot's
    ∷ (add_member 13 1 5009 501, Some SsrcTaken)
    -- another mix's, and port 0
    ∷ (add_member 13 1 0 9001, Some SsrcTaken)
    -- port 0
    ∷ (add_member 13 1 0 9009, Some BadValue)
    -- the greatest port, and SSRC 0
    ∷ (add_member 13 2 65535 0, None)
    ∷ []

-- a source: Exists, NoMember, SsrcTaken (by the bridge or an outgoing stream)
abbrev pub adding_sources : List (Command × Option Refusal)
adding_sources =
    -- its SSRC is a source, and its member is not there
    (add_video 101 99, Some Exists)
    -- its SSRC is a mix, and its member is not there
    ∷ (add_video 9001 99, Some NoMember)
    -- its member is not there
    ∷ (add_video 104 99, Some NoMember)
    -- its SSRC is the bridge's
    ∷ (add_video 1 10, Some SsrcTaken)
    -- a slot's
    ∷ (add_audio 501 10, Some SsrcTaken)
    -- a mix's
    ∷ (add_audio 9003 10, Some SsrcTaken)
    -- SSRC 0
    ∷ (add_audio 0 12, None)
    ∷ []

-- a slot: Exists (its SSRC, or its place), NoMember, SsrcTaken, BadValue (of its index)
abbrev pub adding_slots : List (Command × Option Refusal)
adding_slots =
    -- its SSRC is a slot, its member is not there, and its index is too great
    (add_slot 501 99 16, Some Exists)
    -- its member has a slot of this index
    ∷ (add_slot 503 11 0, Some Exists)
    -- and its SSRC is a source
    ∷ (add_slot 101 11 0, Some Exists)
    -- its member is not there, its SSRC is a source, and its index is too great
    ∷ (add_slot 101 99 16, Some NoMember)
    -- its SSRC is the bridge's
    ∷ (add_slot 1 11 1, Some SsrcTaken)
    -- a source's, and its index is too great
    ∷ (add_slot 101 11 16, Some SsrcTaken)
    -- a mix's
    ∷ (add_slot 9002 11 1, Some SsrcTaken)
    -- its index is too great
    ∷ (add_slot 503 11 16, Some BadValue)
    -- the greatest index
    ∷ (add_slot 503 11 15, None)
    -- the index of another member's slot
    ∷ (add_slot 503 10 0, None)
    ∷ []

-- taking a slot: NoSlot
abbrev pub removing_slots : List (Command × Option Refusal)
removing_slots =
    -- it is not there
    (remove_slot 599, Some NoSlot)
    -- it is a source
    ∷ (remove_slot 101, Some NoSlot)
    -- with its sub
    ∷ (remove_slot 501, None)
    -- without one
    ∷ (remove_slot 502, None)
    ∷ []

-- a subscription: NoSource, NoSlot, WrongKind, OtherRoom, Already
abbrev pub subscribing : List (Command × Option Refusal)
subscribing =
    -- neither is there
    (subscribe 599 199, Some NoSource)
    -- the source is not
    ∷ (subscribe 501 199, Some NoSource)
    -- the slot is not, and the source is audio
    ∷ (subscribe 599 102, Some NoSlot)
    -- the source is audio, in another room
    ∷ (subscribe 502 102, Some WrongKind)
    -- in one room
    ∷ (subscribe 501 102, Some WrongKind)
    -- the source is in another room
    ∷ (subscribe 501 103, Some OtherRoom)
    -- it stands so already
    ∷ (subscribe 501 101, Some Already)
    -- the slot's own member sends it
    ∷ (subscribe 502 103, None)
    ∷ []

-- a subscription of a slot that has source 104, while 101 is there too
abbrev pub subscribing_anew : List (Command × Option Refusal)
subscribing_anew =
    -- it stands so already
    (subscribe 501 104, Some Already)
    -- the other source
    ∷ (subscribe 501 101, None)
    ∷ []

-- ---- full desks, and desks that take one more row
