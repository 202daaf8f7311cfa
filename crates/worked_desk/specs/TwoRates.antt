-- A desk with rooms at two clock rates: what stands against commands there, and the rates of its rooms and members.
use Rattle.std.specs.Prelude.{ℕ, List, [], ◌∷◌, Option, None, Some}
use Rattle.desk_rows.specs.declared.row.Codec.TheVariants.{L16}
use Rattle.desk_rows.specs.declared.row.Member.{Member}
use Rattle.desk_rows.specs.declared.row.Row.{Row}
use Rattle.desk_rows.specs.declared.row.Row.TheVariants as rows
use Rattle.desk_rows.specs.Desk.{Desk}
use Rattle.desk_edit.specs.declared.command.Command.{Command}
use Rattle.desk_edit.specs.declared.command.Command.TheVariants as commands
use Rattle.desk_edit.specs.declared.refusal.Refusal.{Refusal}
use Rattle.desk_edit.specs.declared.refusal.Refusal.TheVariants.{NoRoom, NoMember, BadValue, Already, RateMismatch}
use Rattle.worked_desk.specs.Rows.{member, room}
use Rattle.worked_desk.specs.TwoRooms.{ten, eleven, twelve}
use Rattle.worked_desk.specs.Commands.{add_member}

-- a room by its number and its clock rate in Hz
abbrev pub rated_room : ℕ → ℕ → Row
rated_room number rate = rows.Room (record { room = number; rate = rate })

abbrev pub add_rated_room : ℕ → ℕ → Command
add_rated_room number rate = commands.AddRoom (record { room = number; rate = rate })

-- the member with L16 as its codec
abbrev pub with_l16 : Member → Member
with_l16 m = record m { codec = L16 }

-- by number and room, at port 5009 and with L16
abbrev pub add_l16_member : ℕ → ℕ → Command
add_l16_member number room = commands.AddMember (with_l16 (member number room 5009 9009))

abbrev pub move_member : ℕ → ℕ → Command
move_member member room = commands.MoveMember member room

-- Room 1 is at 8000 Hz, rooms 2 and 3 at 44100 Hz. Member 10 is in room 1 with PCMU and member 11 with L16; member 12
-- is in room 2 with L16.
abbrev pub two_rates : Desk
two_rates = record {
  bridge_ssrc = 1;
  members = ten ∷ with_l16 eleven ∷ with_l16 twelve ∷ [];
  others = room 1 ∷ rated_room 2 44100 ∷ rated_room 3 44100 ∷ [];
}

-- ---- what stands against a command

-- a room: its rate is 8000 or 44100
abbrev pub adding_rated_rooms : List (Command × Option Refusal)
adding_rated_rooms =
    -- for music
    (add_rated_room 4 44100, None)
    -- at another rate of audio
    ∷ (add_rated_room 4 16000, Some BadValue)
    -- without a rate
    ∷ (add_rated_room 4 0, Some BadValue)
    ∷ []

-- a member: RateMismatch (PCMU at 44100 Hz), behind all others
abbrev pub joining : List (Command × Option Refusal)
joining =
    -- with PCMU at 44100 Hz
    (add_member 13 2 5009 9009, Some RateMismatch)
    -- at port 0 too
    ∷ (add_member 13 2 0 9009, Some BadValue)
    -- with PCMU at 8000 Hz
    ∷ (add_member 13 1 5009 9009, None)
    -- with L16 at either
    ∷ (add_l16_member 13 1, None)
    ∷ (add_l16_member 13 2, None)
    ∷ []

-- a move: NoRoom, NoMember, Already, RateMismatch (whatever the codec)
abbrev pub moving_between_rates : List (Command × Option Refusal)
moving_between_rates =
    -- to a greater rate, with PCMU
    (move_member 10 2, Some RateMismatch)
    -- with L16
    ∷ (move_member 11 2, Some RateMismatch)
    -- to a lesser one
    ∷ (move_member 12 1, Some RateMismatch)
    -- to another room of its rate
    ∷ (move_member 12 3, None)
    -- to its own room
    ∷ (move_member 12 2, Some Already)
    -- its room is not there
    ∷ (move_member 12 4, Some NoRoom)
    -- it is not there itself
    ∷ (move_member 13 2, Some NoMember)
    ∷ []

-- ---- rates

-- the rate of a member's audio: that of its room, whatever its codec
abbrev pub rates_of_members : List (ℕ × Option ℕ)
rates_of_members =
    (10, Some 8000)
    ∷ (11, Some 8000)
    ∷ (12, Some 44100)
    -- it is not there
    ∷ (13, None)
    ∷ []

-- the rate of a room's audio
abbrev pub rates_of_rooms : List (ℕ × ℕ)
rates_of_rooms =
    (1, 8000)
    ∷ (2, 44100)
    -- it is not there
    ∷ (4, 8000)
    ∷ []
