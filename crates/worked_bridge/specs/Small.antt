-- A small desk that worked calls begin with, written out row by row.
use Rattle.std.specs.Prelude.{ℕ, List, [], ◌∷◌}
use Rattle.desk_rows.specs.declared.row.Member.{Member}
use Rattle.desk_rows.specs.declared.row.Row.{Row}
use Rattle.desk_rows.specs.declared.row.Row.TheVariants as rows
use Rattle.desk_rows.specs.declared.row.Codec.TheVariants as codecs
use Rattle.desk_rows.specs.declared.row.Media.TheVariants as medias
use Rattle.desk_rows.specs.Desk.{Desk}

-- a member of room 1 at port 5000 of this host, by its number and the SSRC of its mix
abbrev pub member : ℕ → ℕ → ℕ → Member
member number host out_audio = record {
  member = number;
  room = 1;
  address = record { ip = 10 ∷ 0 ∷ 0 ∷ host ∷ []; port = 5000 };
  codec = codecs.Pcmu;
  out_audio = out_audio;
  first_seq = 0;
  first_ts = 0;
}

-- room 1, the video source 101, the slot 501 and its sub
abbrev pub small_rows : List Row
small_rows =
    rows.Room (record { room = 1; rate = 8000 })
    ∷ rows.Source (record { ssrc = 101; member = 10; media = medias.Video })
    ∷ rows.Slot (record { out_ssrc = 501; member = 11; index = 0; first_seq = 65535; first_ts = 1000 })
    ∷ rows.Sub (record { out_ssrc = 501; source = 101 })
    ∷ []

-- members 10 and 11 of room 1: what the six lines of the usual setup make
abbrev pub small : Desk
small = record { bridge_ssrc = 1; members = member 10 1 9001 ∷ member 11 2 9002 ∷ []; others = small_rows }
