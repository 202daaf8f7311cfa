-- What a desk has under a number (own).
pub use Rattle.desk_rows.specs.Getters.{source_in, member_at, source_at, slot_at}
use Rattle.std.specs.Prelude.{ℕ, Bool, false, if◌then◌else◌, nat_eq, Option, None, Some}
use Rattle.std.specs.Option.{is_some, option_map, option_and_then}
use Rattle.std.specs.List.{find}
use Rattle.rtp_codec.specs.declared.address.Address.{Address}
use Rattle.rtp_codec.specs.Address.{same_address}
use Rattle.desk_rows.specs.declared.row.Room.{Room as RoomRow}
use Rattle.desk_rows.specs.declared.row.Member.{Member as MemberRow}
use Rattle.desk_rows.specs.declared.row.Source.{Source as SourceRow}
use Rattle.desk_rows.specs.declared.key.Key.TheVariants as keys
use Rattle.desk_rows.specs.Desk.{Desk, row_at}
use Rattle.desk_rows.specs.Getters.{room_row_at, sub_at, pin_at, floor_at}

-- ---- what a row says

-- the source that the slot of this SSRC has subscribed to
abbrev pub subscribed : Desk → ℕ → Option ℕ
subscribed d out_ssrc = option_map (λ s. s.source) (sub_at d out_ssrc)

-- the source that is pinned in a room
abbrev pub pinned : Desk → ℕ → Option ℕ
pinned d room = option_map (λ p. p.source) (pin_at d room)

-- the member that has the floor of a room
abbrev pub holder : Desk → ℕ → Option ℕ
holder d room = option_map (λ f. f.member) (floor_at d room)

-- nobody is to hear or see the source
abbrev pub is_muted : Desk → ℕ → Bool
is_muted d source = is_some (row_at d (keys.Mute source))

-- ---- to whom and where they belong

-- there is a number, and it is this one
abbrev pub is_this : ℕ → Option ℕ → Bool
is_this n None = false
is_this n (Some m) = nat_eq m n

-- the member that a source is of
abbrev pub sender_of : Desk → ℕ → Option ℕ
sender_of d source = option_map (λ s. s.member) (source_at d source)

-- the room that a member is in
abbrev pub room_of_member : Desk → ℕ → Option ℕ
room_of_member d member = option_map (λ m. m.room) (member_at d member)

-- the clock rate of a room that was found, in Hz: what its row says; where there is none, that of PCMU, 8000 (RFC 3551
-- section 4.5.14)
abbrev pub rate_of_found : Option RoomRow → ℕ
rate_of_found None = 8000
rate_of_found (Some r) = r.rate

-- the clock rate of a room's audio, in Hz
abbrev pub room_rate : Desk → ℕ → ℕ
room_rate d room = rate_of_found (room_row_at d room)

-- the clock rate of a member's audio, in Hz: that of its room; none where there is no such member
abbrev pub rate_of : Desk → ℕ → Option ℕ
rate_of d member = option_map (room_rate d) (room_of_member d member)

-- the room that a source is in: that of its member
abbrev pub room_of_source : Desk → ℕ → Option ℕ
room_of_source d source = option_and_then (room_of_member d) (sender_of d source)

-- there is a member, and this is its address
abbrev pub has_address : Address → Option MemberRow → Bool
has_address address None = false
has_address address (Some m) = same_address m.address address

-- the source's member has this address
abbrev pub comes_from : Desk → ℕ → Address → Bool
comes_from d source address = has_address address (option_and_then (member_at d) (sender_of d source))

-- the source of this SSRC, if its member has this address
abbrev pub source_from : Desk → ℕ → Address → Option SourceRow
source_from d source address = if comes_from d source address then source_at d source else None

-- the member at this address, the first in joining order
abbrev pub member_from : Desk → Address → Option ℕ
member_from d address = option_map (λ m. m.member) (find (λ m. same_address m.address address) d.members)
