-- Words as the code holds them, without where they lie in memory.
use Rattle.std.specs.Prelude.{ℕ, ℤ, Bool, List, [], ◌∷◌, ◌++◌, codes, decimal, if◌then◌else◌}
use Rattle.std.specs.Fmt.{signed_decimal}
use Rattle.hex.specs.Hex.{encode_lower}
use Rattle.sample_codecs.specs.L16.{octets_of}
use Rattle.desk_text.specs.Numbers.{pairs_octets}
use Rattle.desk_text.specs.declared.appending.Word.{Word as Held}
use Rattle.desk_text.specs.declared.appending.Word.TheVariants as words
use Rattle.desk_text.specs.Text.{Word, fixed, value, signed, hex}

-- a marker between slashes
abbrev pub slashed : Bool → List ℕ
slashed marker = if marker then codes "/1/" else codes "/0/"

-- a packet, as its parts are appended
abbrev pub spelt_packet : (ext : ℤ) → (marker : Bool) → (pt : ℕ) → (payload : List ℕ) → List ℕ
spelt_packet ext marker pt payload =
    (signed_decimal ext ++ slashed marker) ++ ((decimal pt ++ 47 ∷ []) ++ encode_lower payload)

-- a word
abbrev pub said : Held → Word
said (words.Fixed text) = fixed text.now
said (words.Value v) = value v
said (words.Signed n) = signed n
said (words.Hex octets) = hex octets.now
said (words.Parts first rest) = hex (first.now ++ rest.now)
said (words.Samples samples) = hex (octets_of samples.now)
said (words.Numbers numbers) = hex (pairs_octets numbers.now)
said (words.Packet ext marker pt payload) = fixed (spelt_packet ext marker pt payload.now)
