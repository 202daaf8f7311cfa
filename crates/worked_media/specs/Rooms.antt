-- A room of the examples: three members, each with an audio source, and what is said there and heard.
use Rattle.std.specs.Prelude.{ℕ, ℤ, pos, true, List, [], ◌∷◌, ◌++◌, map, replicate}
use Rattle.std.specs.List.{range_with_len}
use Rattle.desk_rows.specs.declared.row.Member.{Member}
use Rattle.desk_rows.specs.declared.row.Row.{Row}
use Rattle.desk_rows.specs.declared.row.Row.TheVariants as rows
use Rattle.desk_rows.specs.declared.row.Codec.TheVariants.{L16}
use Rattle.desk_rows.specs.declared.row.Media.TheVariants.{Audio}
use Rattle.desk_rows.specs.Desk.{Desk}
use Rattle.media_items.specs.declared.format.Format.TheVariants.{L16At8000}
use Rattle.forward_rewrite.specs.Mixes.{mix_packet, sound_of}
use Rattle.mixer.specs.Hearing.{Given, put, tick}
use Rattle.mixer.specs.Mixes.{MixSent}

-- a member of room 1 at this port of 10.0.0.1, whose mix is L16 under this SSRC
abbrev pub member : ℕ → ℕ → ℕ → Member
member number port out_audio = record {
  member = number;
  room = 1;
  address = record { ip = 10 ∷ 0 ∷ 0 ∷ 1 ∷ []; port = port };
  codec = L16;
  out_audio = out_audio;
  first_seq = 65535;
  first_ts = 1000;
}

abbrev pub first : Member
first = member 1 5001 9001

abbrev pub second : Member
second = member 2 5002 9002

abbrev pub third : Member
third = member 3 5003 9003

-- an audio source of a member, by its SSRC
abbrev pub audio : ℕ → ℕ → Row
audio ssrc member = rows.Source (record { ssrc = ssrc; member = member; media = Audio })

-- nobody hears the source
abbrev pub mute : ℕ → Row
mute source = rows.Mute (record { source = source })

-- how loud the member hears the source, in parts of 256
abbrev pub gain : ℕ → ℕ → ℕ → Row
gain member source q8 = rows.Gain (record { member = member; source = source; q8 = q8 })

-- the three members with sources 21, 22 and 23, and these rows besides
abbrev pub three_with : List Row → Desk
three_with more = record {
  bridge_ssrc = 1;
  members = first ∷ second ∷ third ∷ [];
  others = rows.Room (record { room = 1; rate = 8000 }) ∷ audio 21 1 ∷ audio 22 2 ∷ audio 23 3 ∷ more;
}

-- one sample of each source
abbrev pub said : List Given
said =
    put 21 first.address 8000 0 (pos 1000 ∷ []) ∷ put 22 second.address 8000 0 (pos 2000 ∷ [])
    ∷ put 23 third.address 8000 0 (pos 4000 ∷ []) ∷ []

-- the samples came in, and then there were two ticks
abbrev pub two_ticks_later : Desk → List Given
two_ticks_later d = said ++ tick d 0 ∷ tick d 20000000 ∷ []

-- and a third, and a fourth
abbrev pub three_ticks_later : Desk → List Given
three_ticks_later d = two_ticks_later d ++ tick d 40000000 ∷ []

abbrev pub four_ticks_later : Desk → List Given
four_ticks_later d = three_ticks_later d ++ tick d 60000000 ∷ []

-- two members, the second with sixteen sources from 101 on
abbrev pub sixteen_sources : Desk
sixteen_sources = record {
  bridge_ssrc = 1;
  members = first ∷ second ∷ [];
  others = rows.Room (record { room = 1; rate = 8000 }) ∷ map (λ ssrc. audio ssrc 2) (range_with_len 101 16);
}

-- each of them came in with one sample of 100, and then there were three ticks
abbrev pub all_sixteen_said : Desk → List Given
all_sixteen_said d =
    map (λ ssrc. put ssrc second.address 8000 0 (pos 100 ∷ [])) (range_with_len 101 16)
    ++ tick d 0 ∷ tick d 20000000 ∷ tick d 40000000 ∷ []

-- the first packet of a member's mix, by these contributing sources: this sample, and then 159 of 0
abbrev pub mix_to : Member → List ℕ → ℤ → MixSent
mix_to m csrcs sample = record {
  to = m.address;
  ssrc = m.out_audio;
  packet =
      mix_packet m.out_audio m.first_seq m.first_ts true (sound_of L16At8000 csrcs (sample ∷ replicate 159 (pos 0)));
}
