-- Which source a slot sends (RFC 7667 section 3.6.2, media-switching mixer; the rule is own).
use Rattle.std.specs.Prelude.{ℕ, Bool, not, ◌&&◌, ◌||◌, if◌then◌else◌, nat_eq, List, Option, None, Some}
use Rattle.std.specs.Option.{option_map, option_or, option_and_then}
use Rattle.std.specs.List.{find, filter_map}
use Rattle.desk_rows.specs.declared.row.Source.{Source as SourceRow}
use Rattle.desk_rows.specs.declared.row.Slot.{Slot as SlotRow}
use Rattle.desk_rows.specs.declared.row.Media.TheVariants.{Video}
use Rattle.desk_rows.specs.Row.{same_media}
use Rattle.desk_rows.specs.Desk.{Desk, same_room}
use Rattle.topology.specs.Looking.{source_in, slot_at, subscribed, pinned, holder, is_muted, is_this, sender_of}
use Rattle.topology.specs.Looking.{room_of_member, room_of_source}

-- ---- what a room shows

-- the sources of a desk, on a good desk by rising SSRC
abbrev pub sources_of : Desk → List SourceRow
sources_of d = filter_map source_in d.others

-- a video source of this member
abbrev pub is_video_of : ℕ → SourceRow → Bool
is_video_of member s = nat_eq s.member member && same_media s.media Video

-- the least video SSRC of a member
abbrev pub first_video : Desk → ℕ → Option ℕ
first_video d member = option_map (λ s. s.ssrc) (find (is_video_of member) (sources_of d))

-- what a room shows: its pin; without one, the least video SSRC of its floor holder
abbrev pub shown : Desk → ℕ → Option ℕ
shown d room = option_or (pinned d room) (option_and_then (first_video d) (holder d room))

-- ---- what a slot gets

-- what a slot gets without a subscription: that of index 0 what the room of its member shows, any other nothing
abbrev pub shown_on : Desk → SlotRow → Option ℕ
shown_on d slot = if nat_eq slot.index 0 then option_and_then (shown d) (room_of_member d slot.member) else None

-- the source that a slot would get: that of its subscription; without one, what it is shown
abbrev pub wanted : Desk → SlotRow → Option ℕ
wanted d slot = option_or (subscribed d slot.out_ssrc) (shown_on d slot)

-- the slot and the source are in one room
abbrev pub are_in_one_room : Desk → SlotRow → ℕ → Bool
are_in_one_room d slot source = same_room (room_of_source d source) (room_of_member d slot.member)

-- the slot does not get the source: it is muted, the slot's own member sends it, or it is in another room
abbrev pub is_barred : Desk → SlotRow → ℕ → Bool
is_barred d slot source =
    is_muted d source || (is_this slot.member (sender_of d source) || not (are_in_one_room d slot source))

-- the source, if the slot may get it
abbrev pub unless_barred : Desk → SlotRow → ℕ → Option ℕ
unless_barred d slot source = if is_barred d slot source then None else Some source

-- the source that a slot chose: the one that it would get, and none where that is barred
abbrev pub chosen : Desk → SlotRow → Option ℕ
chosen d slot = option_and_then (unless_barred d slot) (wanted d slot)

-- the choice of the slot of this SSRC
abbrev pub choice : Desk → ℕ → Option ℕ
choice d out_ssrc = option_and_then (chosen d) (slot_at d out_ssrc)
