-- Edits, and whether they fit: one for each rule of a good desk.
use Rattle.std.specs.Prelude.{Bool, true, false, List, [], ◌∷◌}
use Rattle.desk_rows.specs.declared.row.Row.TheVariants.{Member as MemberRow}
use Rattle.desk_rows.specs.Edit.{EditOf}
use Rattle.worked_desk.specs.Rows.{member, room, video, audio, slot, sub}
use Rattle.worked_desk.specs.TwoRooms.{ten, eleven, twelve, thirteen, fourteen}
use Rattle.worked_desk.specs.Edits.{at, takes, puts, replaces, changes, trades, takes_and_replaces, brings_audio}

-- ---- two rooms

-- what goes is there as it stands, listed in order, and no row that stays names it
abbrev pub taking : List (EditOf × Bool)
taking =
    -- nothing
    (takes [] [], true)
    -- a sub alone
    ∷ (takes [] (sub 501 101 ∷ []), true)
    -- a slot with its sub
    ∷ (takes [] (slot 501 11 0 ∷ sub 501 101 ∷ []), true)
    -- a slot without its sub
    ∷ (takes [] (slot 501 11 0 ∷ []), false)
    -- a source without its sub
    ∷ (takes [] (video 101 10 ∷ []), false)
    -- a source that no sub names
    ∷ (takes [] (video 103 12 ∷ []), true)
    -- a room with members
    ∷ (takes [] (room 1 ∷ []), false)
    -- a room that is not there
    ∷ (takes [] (room 3 ∷ []), false)
    -- a slot that is there with another index
    ∷ (takes [] (slot 502 12 1 ∷ []), false)
    -- one row twice
    ∷ (takes [] (sub 501 101 ∷ sub 501 101 ∷ []), false)
    -- rows out of order
    ∷ (takes [] (slot 502 12 0 ∷ video 103 12 ∷ []), false)
    ∷ []

-- a member goes from its own place, with all that names it
abbrev pub taking_members : List (EditOf × Bool)
taking_members =
    -- with its rows
    (takes (at 2 twelve ∷ []) (video 103 12 ∷ slot 502 12 0 ∷ []), true)
    -- with its room too
    ∷ (takes (at 2 twelve ∷ []) (room 2 ∷ video 103 12 ∷ slot 502 12 0 ∷ []), true)
    -- without its slot
    ∷ (takes (at 2 twelve ∷ []) (video 103 12 ∷ []), false)
    -- without its source
    ∷ (takes (at 2 twelve ∷ []) (slot 502 12 0 ∷ []), false)
    -- from another's place
    ∷ (takes (at 1 twelve ∷ []) (video 103 12 ∷ slot 502 12 0 ∷ []), false)
    -- from behind the end
    ∷ (takes (at 3 twelve ∷ []) (video 103 12 ∷ slot 502 12 0 ∷ []), false)
    -- two, by rising place
    ∷ (takes (at 1 eleven ∷ at 2 twelve ∷ []) (video 103 12 ∷ slot 501 11 0 ∷ slot 502 12 0 ∷ sub 501 101 ∷ []), true)
    -- two, by falling place
    ∷ (takes (at 2 twelve ∷ at 1 eleven ∷ []) (video 103 12 ∷ slot 501 11 0 ∷ slot 502 12 0 ∷ sub 501 101 ∷ []), false)
    ∷ []

-- a member comes to a place in the list, with a number, an address and an SSRC of its own, a port and a room that is
-- there
abbrev pub putting_members : List (EditOf × Bool)
putting_members =
    -- last
    (puts (at 3 thirteen ∷ []) [], true)
    -- first
    ∷ (puts (at 0 thirteen ∷ []) [], true)
    -- behind the end
    ∷ (puts (at 4 thirteen ∷ []) [], false)
    -- two, by rising place
    ∷ (puts (at 3 fourteen ∷ at 4 thirteen ∷ []) [], true)
    -- two, by falling place
    ∷ (puts (at 3 fourteen ∷ at 2 thirteen ∷ []) [], false)
    -- two at one place
    ∷ (puts (at 3 fourteen ∷ at 3 thirteen ∷ []) [], false)
    -- of a room that is not there
    ∷ (puts (at 3 (member 13 3 5003 9004) ∷ []) [], false)
    -- with its room
    ∷ (puts (at 3 (member 13 3 5003 9004) ∷ []) (room 3 ∷ []), true)
    -- whose number is there
    ∷ (puts (at 3 (member 10 2 5003 9004) ∷ []) [], false)
    -- whose address is there
    ∷ (puts (at 3 (member 13 2 5000 9004) ∷ []) [], false)
    -- whose mix has the SSRC of another mix
    ∷ (puts (at 3 (member 13 2 5003 9001) ∷ []) [], false)
    -- of a source
    ∷ (puts (at 3 (member 13 2 5003 101) ∷ []) [], false)
    -- of the bridge
    ∷ (puts (at 3 (member 13 2 5003 1) ∷ []) [], false)
    -- at port 0
    ∷ (puts (at 3 (member 13 2 0 9004) ∷ []) [], false)
    -- among the other rows
    ∷ (puts [] (MemberRow thirteen ∷ []), false)
    ∷ []

-- a row comes with a key and an SSRC of its own, what it names is there, and it obeys the rule of its kind
abbrev pub putting : List (EditOf × Bool)
putting =
    -- a new room
    (puts [] (room 3 ∷ []), true)
    -- a room that is there
    ∷ (puts [] (room 2 ∷ []), false)
    -- rows out of order
    ∷ (puts [] (room 4 ∷ room 3 ∷ []), false)
    -- a source of a member that is not there
    ∷ (puts [] (video 104 13 ∷ []), false)
    -- a source with the SSRC of a slot
    ∷ (puts [] (video 501 10 ∷ []), false)
    -- of a mix
    ∷ (puts [] (video 9003 10 ∷ []), false)
    -- of the bridge
    ∷ (puts [] (video 1 10 ∷ []), false)
    -- a slot of a member that is not there
    ∷ (puts [] (slot 503 13 0 ∷ []), false)
    -- a slot in another's place
    ∷ (puts [] (slot 503 11 0 ∷ []), false)
    -- with the SSRC of a source
    ∷ (puts [] (slot 101 11 1 ∷ []), false)
    -- the greatest index
    ∷ (puts [] (slot 503 11 15 ∷ []), true)
    -- and one more
    ∷ (puts [] (slot 503 11 16 ∷ []), false)
    ∷ []

-- a sub comes of a slot and a video source that are there, of members in one room
abbrev pub putting_subs : List (EditOf × Bool)
putting_subs =
    -- of two members of a room
    (puts [] (slot 503 11 1 ∷ sub 503 101 ∷ []), true)
    -- of a member and its own source
    ∷ (puts [] (sub 502 103 ∷ []), true)
    -- of a slot that is not there
    ∷ (puts [] (sub 503 101 ∷ []), false)
    -- of a source that is not there
    ∷ (puts [] (sub 502 104 ∷ []), false)
    -- with its source
    ∷ (puts [] (video 104 12 ∷ sub 502 104 ∷ []), true)
    -- of an audio source
    ∷ (puts [] (slot 503 10 0 ∷ sub 503 102 ∷ []), false)
    -- of a source in another room
    ∷ (puts [] (sub 502 101 ∷ []), false)
    -- of a slot that has a sub
    ∷ (puts [] (sub 501 101 ∷ []), false)
    ∷ []

-- a row is replaced by one of its key, and the rows that stay still obey their rules
abbrev pub replacing : List (EditOf × Bool)
replacing =
    -- by another index
    (replaces (slot 502 12 0 ∷ []) (slot 502 12 3 ∷ []), true)
    -- by another key
    ∷ (replaces (slot 502 12 0 ∷ []) (slot 503 12 0 ∷ []), false)
    -- a slot that is there with another index
    ∷ (replaces (slot 502 12 1 ∷ []) (slot 502 12 3 ∷ []), false)
    -- by nothing
    ∷ (replaces (slot 502 12 0 ∷ []) [], false)
    -- nothing by a row
    ∷ (replaces [] (slot 503 12 3 ∷ []), false)
    -- a sub's slot, within the room
    ∷ (replaces (slot 501 11 0 ∷ []) (slot 501 10 0 ∷ []), true)
    -- out of it
    ∷ (replaces (slot 501 11 0 ∷ []) (slot 501 12 1 ∷ []), false)
    -- a sub's source, by audio
    ∷ (replaces (video 101 10 ∷ []) (audio 101 10 ∷ []), false)
    -- a row that is taken as well
    ∷ (takes_and_replaces (slot 502 12 0 ∷ []) (slot 502 12 0 ∷ []) (slot 502 12 3 ∷ []), false)
    -- beside a row that is taken
    ∷ (takes_and_replaces (sub 501 101 ∷ []) (slot 502 12 0 ∷ []) (slot 502 12 3 ∷ []), true)
    ∷ []

-- a member that moves to another room parts the two sides of a sub
abbrev pub moving : List (EditOf × Bool)
moving =
    -- who has its slot
    (changes (at 1 eleven) (at 1 (record eleven { room = 2 })), false)
    -- who sends its source
    ∷ (changes (at 0 ten) (at 0 (record ten { room = 2 })), false)
    -- who has neither
    ∷ (changes (at 2 twelve) (at 2 (record twelve { room = 1 })), true)
    -- to the first place, and to no other room
    ∷ (changes (at 1 eleven) (at 0 eleven), true)
    -- to a room that is not there
    ∷ (changes (at 2 twelve) (at 2 (record twelve { room = 3 })), false)
    ∷ []

-- ---- full desks

-- a room to 64 rooms
abbrev pub putting_a_65th_room : List (EditOf × Bool)
putting_a_65th_room =
    -- beside them
    (puts [] (room 65 ∷ []), false)
    -- in the stead of one
    ∷ (trades (room 64 ∷ []) (room 65 ∷ []), true)
    ∷ []

-- a source to 64 audio sources of room 1
abbrev pub putting_a_65th_source : List (EditOf × Bool)
putting_a_65th_source =
    -- audio
    (puts [] (audio 165 10 ∷ []), false)
    -- video
    ∷ (puts [] (video 165 10 ∷ []), true)
    -- audio in another room
    ∷ (puts [] (audio 165 12 ∷ []), true)
    -- audio in the stead of one
    ∷ (trades (audio 164 10 ∷ []) (audio 165 11 ∷ []), true)
    -- audio that a member brings from another room
    ∷ (brings_audio, false)
    ∷ []
