-- The values of rows (own): those of a row's fields, in the order in which `show` and the command that puts it have
-- them.
use Rattle.std.specs.Prelude.{ℕ, Bool, true, false, ◌&&◌, List, [], ◌∷◌, nat_eq, slice_index_or}
use Rattle.rtp_codec.specs.declared.address.Address.{Address}
use Rattle.rtp_codec.specs.Address.{same_address}
use Rattle.desk_rows.specs.declared.row.Codec.{Codec}
use Rattle.desk_rows.specs.declared.row.Codec.TheVariants as codecs
use Rattle.desk_rows.specs.declared.row.Media.{Media}
use Rattle.desk_rows.specs.declared.row.Media.TheVariants as medias
use Rattle.desk_rows.specs.declared.row.Row.{Row}
use Rattle.desk_rows.specs.declared.row.Row.TheVariants.{Room, Member, Source, Slot, Sub, Mute, Gain, Pin, Floor}
use Rattle.desk_rows.specs.declared.key.Kind.{Kind}
use Rattle.desk_rows.specs.declared.key.Kind.TheVariants as kinds
use Rattle.desk_rows.specs.declared.values.RowValue.{RowValue}
use Rattle.desk_rows.specs.declared.values.RowValue.TheVariants as values

-- a row's values
abbrev pub row_values : Row → List RowValue
row_values (Room r) = values.U32 r.room ∷ values.U32 r.rate ∷ []
row_values (Member m) =
    values.U32 m.member
    ∷ values.U32 m.room
    ∷ values.Address m.address
    ∷ values.Codec m.codec
    ∷ values.U32 m.out_audio
    ∷ values.U16 m.first_seq
    ∷ values.U32 m.first_ts
    ∷ []
row_values (Source s) = values.U32 s.ssrc ∷ values.U32 s.member ∷ values.Media s.media ∷ []
row_values (Slot s) =
    values.U32 s.out_ssrc
    ∷ values.U32 s.member
    ∷ values.U32 s.index
    ∷ values.U16 s.first_seq
    ∷ values.U32 s.first_ts
    ∷ []
row_values (Sub s) = values.U32 s.out_ssrc ∷ values.U32 s.source ∷ []
row_values (Mute m) = values.U32 m.source ∷ []
row_values (Gain g) = values.U32 g.member ∷ values.U32 g.source ∷ values.U32 g.q8 ∷ []
row_values (Pin p) = values.U32 p.room ∷ values.U32 p.source ∷ []
row_values (Floor f) = values.U32 f.room ∷ values.U32 f.member ∷ []

-- ---- a row of its values

-- the value at a place, or a number 0 where there is none
abbrev pub value_at : ℕ → List RowValue → RowValue
value_at place vs = slice_index_or vs place (values.U32 0)

-- a value as a number of 16 bits, else 0
abbrev pub as_u16 : RowValue → ℕ
as_u16 (values.U16 n) = n
as_u16 value = 0

-- a value as a number of 32 bits, else 0
abbrev pub as_u32 : RowValue → ℕ
as_u32 (values.U32 n) = n
as_u32 value = 0

-- a value as an address, else that of zeros
abbrev pub as_address : RowValue → Address
as_address (values.Address address) = address
as_address value = record { ip = 0 ∷ 0 ∷ 0 ∷ 0 ∷ []; port = 0 }

-- a value as a codec, else the first
abbrev pub as_codec : RowValue → Codec
as_codec (values.Codec codec) = codec
as_codec value = codecs.Pcmu

-- a value as a kind of source, else the first
abbrev pub as_media : RowValue → Media
as_media (values.Media media) = media
as_media value = medias.Audio

-- the number of 16 bits at a place
abbrev pub u16_at : ℕ → List RowValue → ℕ
u16_at place vs = as_u16 (value_at place vs)

-- the number of 32 bits at a place
abbrev pub u32_at : ℕ → List RowValue → ℕ
u32_at place vs = as_u32 (value_at place vs)

-- the address at a place
abbrev pub address_at : ℕ → List RowValue → Address
address_at place vs = as_address (value_at place vs)

-- the codec at a place
abbrev pub codec_at : ℕ → List RowValue → Codec
codec_at place vs = as_codec (value_at place vs)

-- the kind of source at a place
abbrev pub media_at : ℕ → List RowValue → Media
media_at place vs = as_media (value_at place vs)

-- the row of a kind with these values
abbrev pub row_with : Kind → List RowValue → Row
row_with kinds.Room vs = Room (record { room = u32_at 0 vs; rate = u32_at 1 vs })
row_with kinds.Member vs =
    Member (record {
      member = u32_at 0 vs;
      room = u32_at 1 vs;
      address = address_at 2 vs;
      codec = codec_at 3 vs;
      out_audio = u32_at 4 vs;
      first_seq = u16_at 5 vs;
      first_ts = u32_at 6 vs;
    })
row_with kinds.Source vs = Source (record { ssrc = u32_at 0 vs; member = u32_at 1 vs; media = media_at 2 vs })
row_with kinds.Slot vs =
    Slot (record {
      out_ssrc = u32_at 0 vs;
      member = u32_at 1 vs;
      index = u32_at 2 vs;
      first_seq = u16_at 3 vs;
      first_ts = u32_at 4 vs;
    })
row_with kinds.Sub vs = Sub (record { out_ssrc = u32_at 0 vs; source = u32_at 1 vs })
row_with kinds.Mute vs = Mute (record { source = u32_at 0 vs })
row_with kinds.Gain vs = Gain (record { member = u32_at 0 vs; source = u32_at 1 vs; q8 = u32_at 2 vs })
row_with kinds.Pin vs = Pin (record { room = u32_at 0 vs; source = u32_at 1 vs })
row_with kinds.Floor vs = Floor (record { room = u32_at 0 vs; member = u32_at 1 vs })

-- ---- equal values

-- a codec as a number
abbrev pub codec_number : Codec → ℕ
codec_number codecs.Pcmu = 0
codec_number codecs.L16 = 1

-- a kind of media as a number
abbrev pub media_number : Media → ℕ
media_number medias.Audio = 0
media_number medias.Video = 1

-- whether two values are one: of one type, and equal
abbrev pub same_value : RowValue → RowValue → Bool
same_value (values.U16 m) (values.U16 n) = nat_eq m n
same_value (values.U32 m) (values.U32 n) = nat_eq m n
same_value (values.Address a) (values.Address b) = same_address a b
same_value (values.Codec a) (values.Codec b) = nat_eq (codec_number a) (codec_number b)
same_value (values.Media a) (values.Media b) = nat_eq (media_number a) (media_number b)
same_value _ _ = false

-- whether two lists of values are one: value by value
abbrev pub same_values : List RowValue → List RowValue → Bool
same_values [] [] = true
same_values (x ∷ xs) (y ∷ ys) = same_value x y && same_values xs ys
same_values _ _ = false
