-- Rows of worked calls, by the fields in which they differ.
use Rattle.std.specs.Prelude.{ℕ, [], ◌∷◌}
use Rattle.desk_rows.specs.declared.row.Member.{Member}
use Rattle.desk_rows.specs.declared.row.Row.{Row}
use Rattle.desk_rows.specs.declared.row.Row.TheVariants as rows
use Rattle.desk_rows.specs.declared.row.Codec.TheVariants.{Pcmu}
use Rattle.desk_rows.specs.declared.row.Media.TheVariants.{Audio, Video}

-- a member of a room, by number and room, that is sent to at this port of 10.0.0.1, with the SSRC of its mix
abbrev pub member : ℕ → ℕ → ℕ → ℕ → Member
member number room port out_audio = record {
  member = number;
  room = room;
  address = record { ip = 10 ∷ 0 ∷ 0 ∷ 1 ∷ []; port = port };
  codec = Pcmu;
  out_audio = out_audio;
  first_seq = 0;
  first_ts = 0;
}

abbrev pub room : ℕ → Row
room number = rows.Room (record { room = number; rate = 8000 })

-- a source of a member, by its SSRC
abbrev pub video : ℕ → ℕ → Row
video ssrc member = rows.Source (record { ssrc = ssrc; member = member; media = Video })

abbrev pub audio : ℕ → ℕ → Row
audio ssrc member = rows.Source (record { ssrc = ssrc; member = member; media = Audio })

-- a slot of a member, by its SSRC, at this index
abbrev pub slot : ℕ → ℕ → ℕ → Row
slot out_ssrc member index =
    rows.Slot (record { out_ssrc = out_ssrc; member = member; index = index; first_seq = 65535; first_ts = 1000 })

-- the slot has the source
abbrev pub sub : ℕ → ℕ → Row
sub out_ssrc source = rows.Sub (record { out_ssrc = out_ssrc; source = source })

-- nobody hears or sees the source
abbrev pub mute : ℕ → Row
mute source = rows.Mute (record { source = source })

-- the room shows the source
abbrev pub pin : ℕ → ℕ → Row
pin room source = rows.Pin (record { room = room; source = source })

-- the member has the floor of the room
abbrev pub floor : ℕ → ℕ → Row
floor room member = rows.Floor (record { room = room; member = member })
