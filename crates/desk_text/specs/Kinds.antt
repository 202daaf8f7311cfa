-- Words for codecs and kinds of source (own).
use Rattle.std.specs.Prelude.{ℕ, List, [], ◌∷◌, codes, Option}
use Rattle.std.specs.List.{find}
use Rattle.std.specs.Str.{bytes_eq}
use Rattle.desk_rows.specs.declared.row.Codec.{Codec}
use Rattle.desk_rows.specs.declared.row.Codec.TheVariants.{Pcmu, L16}
use Rattle.desk_rows.specs.declared.row.Media.{Media}
use Rattle.desk_rows.specs.declared.row.Media.TheVariants.{Audio, Video}

-- how a codec is written
abbrev pub codec_text : Codec → List ℕ
codec_text Pcmu = codes "pcmu"
codec_text L16 = codes "l16"

-- the codec that a word names
abbrev pub codec_of : List ℕ → Option Codec
codec_of word = find (λ codec. bytes_eq word (codec_text codec)) (Pcmu ∷ L16 ∷ [])

-- how a kind of source is written
abbrev pub media_text : Media → List ℕ
media_text Audio = codes "audio"
media_text Video = codes "video"

-- the kind of source that a word names
abbrev pub media_of : List ℕ → Option Media
media_of word = find (λ media. bytes_eq word (media_text media)) (Audio ∷ Video ∷ [])
