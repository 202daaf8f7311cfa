-- Three rooms that show something, what each of their slots sends, and who gets what a source sends.
use Rattle.std.specs.Prelude.{ℕ, List, [], ◌∷◌, Option, None, Some}
use Rattle.rtp_codec.specs.declared.address.Address.{Address}
use Rattle.desk_rows.specs.Desk.{Desk}
use Rattle.topology.specs.declared.receivers.Receiver.{Receiver}
use Rattle.worked_desk.specs.Rows.{member, room, video, audio, slot, sub, mute, pin, floor}

-- Room 1 has a pin, source 103 of member 11, and a floor, which member 10 has. Room 2 has a floor alone, which member
-- 20 has. In room 3 member 30 has the floor, and the first of its two video sources is muted, as is source 104 in room
-- 1.
-- Members of room 1 joined in the order 12, 10, 11, 13.
abbrev pub shown_rooms : Desk
shown_rooms = record {
  bridge_ssrc = 1;
  members =
      member 12 1 5012 9012
      ∷ member 10 1 5010 9010
      ∷ member 20 2 5020 9020
      ∷ member 11 1 5011 9011
      ∷ member 13 1 5013 9013
      ∷ member 21 2 5021 9021
      ∷ member 30 3 5030 9030
      ∷ member 31 3 5031 9031
      ∷ [];
  others =
      room 1
      ∷ room 2
      ∷ room 3
      ∷ video 101 10
      ∷ audio 102 10
      ∷ video 103 11
      ∷ video 104 10
      ∷ audio 200 20
      ∷ video 201 20
      ∷ video 202 20
      ∷ video 301 30
      ∷ video 302 30
      ∷ slot 501 10 2
      ∷ slot 502 10 0
      ∷ slot 503 11 0
      ∷ slot 504 11 1
      ∷ slot 505 12 0
      ∷ slot 506 12 1
      ∷ slot 507 12 2
      ∷ slot 508 13 0
      ∷ slot 601 20 0
      ∷ slot 602 21 0
      ∷ slot 603 21 1
      ∷ slot 701 31 0
      ∷ sub 501 103
      ∷ sub 504 101
      ∷ sub 505 104
      ∷ sub 507 103
      ∷ sub 508 101
      ∷ mute 104
      ∷ mute 301
      ∷ pin 1 103
      ∷ floor 1 10
      ∷ floor 2 20
      ∷ floor 3 30
      ∷ [];
}

-- ---- what a slot sends

-- a subscription decides, at any index
abbrev pub by_subscription : List (ℕ × Option ℕ)
by_subscription =
    -- the source that is pinned too, at index 2
    (501, Some 103)
    -- another one, at index 1
    ∷ (504, Some 101)
    -- at index 0, where the room's pin does not count
    ∷ (508, Some 101)
    -- a muted source, for which the pin does not stand in
    ∷ (505, None)
    ∷ []

-- without one, what the room shows, at index 0 alone
abbrev pub by_room : List (ℕ × Option ℕ)
by_room =
    -- the pin, for the one who has the floor too
    (502, Some 103)
    -- the pin is of the slot's own member, and the floor does not stand in
    ∷ (503, None)
    -- at index 1 nothing
    ∷ (506, None)
    -- the first video source of the one who has the floor
    ∷ (602, Some 201)
    -- who does not get it
    ∷ (601, None)
    -- at index 1 nothing
    ∷ (603, None)
    -- the first is muted, and the second does not stand in
    ∷ (701, None)
    ∷ []

-- no slot's SSRC
abbrev pub by_nothing : List (ℕ × Option ℕ)
by_nothing =
    -- a source's
    (101, None)
    -- nobody's
    ∷ (999, None)
    ∷ []

-- ---- who gets it

-- a port at the members' address
abbrev pub at_port : ℕ → Address
at_port port = record { ip = 10 ∷ 0 ∷ 0 ∷ 1 ∷ []; port = port }

-- the receiver at a port: a slot by SSRC, member and index
abbrev pub getting : ℕ → ℕ → ℕ → ℕ → Receiver
getting port out_ssrc member index =
    record {
      slot = record { out_ssrc = out_ssrc; member = member; index = index; first_seq = 65535; first_ts = 1000 };
      address = at_port port;
    }

-- what a source sends from an address, and the receivers, by place of the member and then by index
abbrev pub who_gets : List ((ℕ × Address) × List Receiver)
who_gets =
    -- by subscription and by pin: member 12 before member 10, and index 0 before index 2
    ((103, at_port 5011), getting 5012 507 12 2 ∷ getting 5010 502 10 0 ∷ getting 5010 501 10 2 ∷ [])
    -- from another member's port
    ∷ ((103, at_port 5010), [])
    -- by subscription alone
    ∷ ((101, at_port 5010), getting 5011 504 11 1 ∷ getting 5013 508 13 0 ∷ [])
    -- by the floor alone
    ∷ ((201, at_port 5020), getting 5021 602 21 0 ∷ [])
    -- the floor holder's other source
    ∷ ((202, at_port 5020), [])
    -- a muted source
    ∷ ((104, at_port 5010), [])
    -- a source that is not there
    ∷ ((999, at_port 5010), [])
    ∷ []

-- who is at an address
abbrev pub at_addresses : List (Address × Option ℕ)
at_addresses =
    -- the last and the first member of a room
    (at_port 5013, Some 13)
    ∷ (at_port 5012, Some 12)
    -- nobody
    ∷ (at_port 5014, None)
    ∷ []
