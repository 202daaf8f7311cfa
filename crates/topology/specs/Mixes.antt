-- Which sources the mix of a member is made of (RFC 7667 section 3.6.1, media-mixing mixer; the order is own).
use Rattle.std.specs.Prelude.{ℕ, Bool, not, ◌&&◌, nat_eq, List, [], filter, map, Option, None, Some}
use Rattle.std.specs.List.{find, flat_map}
use Rattle.desk_rows.specs.declared.row.Member.{Member as MemberRow}
use Rattle.desk_rows.specs.declared.row.Source.{Source as SourceRow}
use Rattle.desk_rows.specs.declared.row.Row.{Row}
use Rattle.desk_rows.specs.declared.row.Row.TheVariants.{Gain}
use Rattle.desk_rows.specs.declared.row.Media.TheVariants.{Audio}
use Rattle.desk_rows.specs.declared.key.Key.TheVariants as keys
use Rattle.desk_rows.specs.Row.{same_media}
use Rattle.desk_rows.specs.Desk.{Desk, row_at}
use Rattle.topology.specs.declared.hearing.AudioSource.{AudioSource}
use Rattle.topology.specs.declared.hearing.MixSource.{MixSource}
use Rattle.topology.specs.Looking.{is_muted, room_of_member}
use Rattle.topology.specs.Choice.{sources_of}

-- ---- what may be heard

-- an audio source of this member that isn't muted
abbrev pub is_audible : Desk → MemberRow → SourceRow → Bool
is_audible d m s = nat_eq s.member m.member && (same_media s.media Audio && not (is_muted d s.ssrc))

-- a source at the address and in the room of a member
abbrev pub audio_source : MemberRow → SourceRow → AudioSource
audio_source m s = record { ssrc = s.ssrc; address = m.address; member = m.member; room = m.room }

-- the audio sources that aren't muted, by place of the member and then, on a good desk, by rising SSRC
abbrev pub audio_sources : Desk → List AudioSource
audio_sources d = flat_map (λ m. map (audio_source m) (filter (is_audible d m) (sources_of d))) d.members

-- ---- how loud

-- the gain of a source that has no row for it, in parts of 256: as loud as it came
abbrev pub full_gain : ℕ
full_gain = 256

-- the gain in the row that was found, and the full one where none was
abbrev pub gain_in : Option Row → ℕ
gain_in (Some (Gain g)) = g.q8
gain_in _ = full_gain

-- how loud a member hears a source, in parts of 256
abbrev pub gain_of : Desk → ℕ → ℕ → ℕ
gain_of d member source = gain_in (row_at d (keys.Gain member source))

-- ---- what one member hears

-- the source is in this room
abbrev pub in_room : ℕ → AudioSource → Bool
in_room room s = nat_eq s.room room

-- a source with a member's gain for it
abbrev pub mix_source : Desk → ℕ → AudioSource → MixSource
mix_source d member s = record { ssrc = s.ssrc; address = s.address; member = s.member; gain = gain_of d member s.ssrc }

-- the sources of a room, each with a member's gain for it; none where there is no room
abbrev pub room_mix : Desk → ℕ → Option ℕ → List MixSource
room_mix d member None = []
room_mix d member (Some room) = map (mix_source d member) (filter (in_room room) (audio_sources d))

-- the sources of a member's mix, its own among them: all of its room. None where there is no such member
abbrev pub mix_plan : Desk → ℕ → List MixSource
mix_plan d member = room_mix d member (room_of_member d member)

-- whose mix goes out under this SSRC, the first in joining order
abbrev pub mix_member : Desk → ℕ → Option MemberRow
mix_member d out_ssrc = find (λ m. nat_eq m.out_audio out_ssrc) d.members
