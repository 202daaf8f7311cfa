-- Edits and commands, and the desk that they make of the two rooms.
use Rattle.std.specs.Prelude.{List, [], ◌∷◌}
use Rattle.desk_rows.specs.declared.row.Codec.TheVariants.{L16}
use Rattle.desk_rows.specs.declared.row.Member.{Member}
use Rattle.desk_rows.specs.declared.row.Row.{Row}
use Rattle.desk_rows.specs.Desk.{Desk}
use Rattle.desk_rows.specs.Edit.{EditOf}
use Rattle.desk_edit.specs.declared.command.Command.{Command}
use Rattle.worked_desk.specs.Rows.{member, room, video, audio, slot, sub}
use Rattle.worked_desk.specs.TwoRooms.{ten, eleven, twelve, thirteen, fourteen, eight_rows, two_rooms}
use Rattle.worked_desk.specs.Edits.{at, takes, puts, replaces, changes, six_lists}
use Rattle.worked_desk.specs.Commands.{add_room, add_member, add_video, add_slot, remove_slot, subscribe}

-- the two rooms with these members, or these other rows, in the stead of theirs
abbrev pub with_members : List Member → Desk
with_members members = record two_rooms { members = members }

abbrev pub with_others : List Row → Desk
with_others others = record two_rooms { others = others }

-- with these sources, slots and subs behind source 103
abbrev pub with_slots : List Row → Desk
with_slots rest = with_others (room 1 ∷ room 2 ∷ video 101 10 ∷ audio 102 10 ∷ video 103 12 ∷ rest)

-- with room 3 too
abbrev pub three_rooms : Desk
three_rooms =
    with_others (room 1 ∷ room 2 ∷ room 3 ∷ video 101 10 ∷ audio 102 10 ∷ video 103 12 ∷ slot 501 11 0 ∷ slot 502 12 0
    ∷ sub 501 101 ∷ [])

-- ---- edits

-- an edit that does not fit changes nothing, not even by the part that would
abbrev pub changing_nothing : List (EditOf × Desk)
changing_nothing =
    -- no rows
    (takes [] [], two_rooms)
    -- a room with members
    ∷ (takes [] (room 1 ∷ []), two_rooms)
    -- a slot at index 16, beside a room that could come
    ∷ (puts [] (room 3 ∷ slot 503 11 16 ∷ []), two_rooms)
    -- a row for one of another key
    ∷ (replaces (slot 502 12 0 ∷ []) (slot 503 12 0 ∷ []), two_rooms)
    ∷ []

-- members 10 and 12 go, with their sources, a slot, and the sub of a source
abbrev pub first_and_last_go : EditOf
first_and_last_go =
    takes (at 0 ten ∷ at 2 twelve ∷ []) (video 101 10 ∷ audio 102 10 ∷ video 103 12 ∷ slot 502 12 0 ∷ sub 501 101 ∷ [])

-- members come to their places and leave no gaps
abbrev pub exchanging_members : List (EditOf × Desk)
exchanging_members =
    -- between the first and the second
    (puts (at 1 thirteen ∷ []) [], with_members (ten ∷ thirteen ∷ eleven ∷ twelve ∷ []))
    -- before the first and behind the last
    ∷ (puts (at 0 fourteen ∷ at 4 thirteen ∷ []) [], with_members (fourteen ∷ ten ∷ eleven ∷ twelve ∷ thirteen ∷ []))
    -- the first and the last go
    ∷ (first_and_last_go, record two_rooms { members = eleven ∷ []; others = room 1 ∷ room 2 ∷ slot 501 11 0 ∷ [] })
    -- a row that changes keeps its place
    ∷ (
      changes (at 1 eleven) (at 1 (record eleven { codec = L16 })),
      with_members (ten ∷ record eleven { codec = L16 } ∷ twelve ∷ []),
    )
    -- a member moves from the last place to the first, and to the other room
    ∷ (
      changes (at 2 twelve) (at 0 (record twelve { room = 1 })),
      with_members (record twelve { room = 1 } ∷ ten ∷ eleven ∷ []),
    )
    ∷ []

-- other rows come in the order of kinds and keys
abbrev pub exchanging_others : List (EditOf × Desk)
exchanging_others =
    -- before the first
    (puts [] (room 0 ∷ []), with_others (room 0 ∷ eight_rows))
    -- behind the last
    ∷ (puts [] (sub 502 103 ∷ []), with_slots (slot 501 11 0 ∷ slot 502 12 0 ∷ sub 501 101 ∷ sub 502 103 ∷ []))
    -- a slot goes with its sub
    ∷ (takes [] (slot 501 11 0 ∷ sub 501 101 ∷ []), with_slots (slot 502 12 0 ∷ []))
    -- a slot is replaced, and its sub stays
    ∷ (
      replaces (slot 501 11 0 ∷ []) (slot 501 11 3 ∷ []),
      with_slots (slot 501 11 3 ∷ slot 502 12 0 ∷ sub 501 101 ∷ []),
    )
    -- all at once
    ∷ (
      six_lists,
      record two_rooms {
        members = member 13 3 5003 9004 ∷ ten ∷ eleven ∷ [];
        others = room 1 ∷ room 2 ∷ room 3 ∷ video 101 10 ∷ audio 102 10 ∷ slot 501 11 3 ∷ sub 501 101 ∷ [];
      },
    )
    ∷ []

-- ---- commands

abbrev pub carrying_out : List (Command × Desk)
carrying_out =
    -- a room stands by its number
    (add_room 0, with_others (room 0 ∷ eight_rows))
    -- a member joins as the last, whatever its number and its room
    ∷ (add_member 5 1 5003 9004, with_members (ten ∷ eleven ∷ twelve ∷ member 5 1 5003 9004 ∷ []))
    -- a source and a slot stand by their SSRCs
    ∷ (add_video 104 10, with_slots (video 104 10 ∷ slot 501 11 0 ∷ slot 502 12 0 ∷ sub 501 101 ∷ []))
    ∷ (add_slot 500 10 15, with_slots (slot 500 10 15 ∷ slot 501 11 0 ∷ slot 502 12 0 ∷ sub 501 101 ∷ []))
    -- a slot goes with its sub, or alone where it has none
    ∷ (remove_slot 501, with_slots (slot 502 12 0 ∷ []))
    ∷ (remove_slot 502, with_slots (slot 501 11 0 ∷ sub 501 101 ∷ []))
    -- a slot without a source is given one
    ∷ (subscribe 502 103, with_slots (slot 501 11 0 ∷ slot 502 12 0 ∷ sub 501 101 ∷ sub 502 103 ∷ []))
    ∷ []

-- a slot that had source 101 has 104 instead
abbrev pub other_source : Desk
other_source = with_slots (video 104 10 ∷ slot 501 11 0 ∷ slot 502 12 0 ∷ sub 501 104 ∷ [])
