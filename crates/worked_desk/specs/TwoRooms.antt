-- The desk that most worked calls begin with, written out row by row.
use Rattle.std.specs.Prelude.{List, [], ◌∷◌}
use Rattle.desk_rows.specs.declared.row.Member.{Member}
use Rattle.desk_rows.specs.declared.row.Row.{Row}
use Rattle.desk_rows.specs.Desk.{Desk}
use Rattle.worked_desk.specs.Rows.{member, room, video, audio, slot, sub}

-- members 10 and 11 in room 1, and 12 in room 2
abbrev pub ten : Member
ten = member 10 1 5000 9001

abbrev pub eleven : Member
eleven = member 11 1 5001 9002

abbrev pub twelve : Member
twelve = member 12 2 5002 9003

-- members who may join room 2
abbrev pub thirteen : Member
thirteen = member 13 2 5003 9004

abbrev pub fourteen : Member
fourteen = member 14 2 5004 9005

-- video and audio of member 10, video of 12; a slot of 11, which has source 101, and one of 12, which has none
abbrev pub eight_rows : List Row
eight_rows =
    room 1 ∷ room 2 ∷ video 101 10 ∷ audio 102 10 ∷ video 103 12 ∷ slot 501 11 0 ∷ slot 502 12 0 ∷ sub 501 101 ∷ []

-- the desk of a bridge that speaks under SSRC 1
abbrev pub two_rooms : Desk
two_rooms = record { bridge_ssrc = 1; members = ten ∷ eleven ∷ twelve ∷ []; others = eight_rows }
