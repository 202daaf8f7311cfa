-- The limits of a desk (own).
use Rattle.std.specs.Prelude.{ℕ, ◌+◌, ◌*◌}

-- the most rooms
abbrev pub room_limit : ℕ
room_limit = 64

-- the most members in all rooms
abbrev pub member_limit : ℕ
member_limit = 1024

-- the most sources
abbrev pub source_limit : ℕ
source_limit = 2048

-- the most slots
abbrev pub slot_limit : ℕ
slot_limit = 4096

-- the most audio sources in one room
abbrev pub room_audio_limit : ℕ
room_audio_limit = 64

-- the greatest index of a slot: 16 of a member
abbrev pub index_limit : ℕ
index_limit = 15

-- the most gains
abbrev pub gain_limit : ℕ
gain_limit = 65536

-- the greatest gain, in parts of 256
abbrev pub q8_limit : ℕ
q8_limit = 1024

-- the most rows beside the members: gains, rooms with a pin and a floor each, sources with a mute each, and slots with
-- a sub each
abbrev pub other_limit : ℕ
other_limit = gain_limit + 3 * room_limit + 2 * source_limit + 2 * slot_limit
