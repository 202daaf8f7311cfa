-- Values of fields: the words that stand behind the first word of a line (own).
use Rattle.std.specs.Prelude.{ℕ, ◌+◌, ◌≤◌, List, [], ◌∷◌, slice_index_or, Option, Result, Ok, option_map}
use Rattle.std.specs.Fmt.{decimal}
use Rattle.rtp_codec.specs.declared.address.Address.{Address}
use Rattle.desk_rows.specs.declared.values.RowValue.{RowValue}
use Rattle.desk_rows.specs.declared.values.RowValue.TheVariants as held
use Rattle.desk_text.specs.declared.fault.Fault.{Fault}
use Rattle.desk_text.specs.declared.fault.Fault.TheVariants.{UnknownWord, BadNumber, BadAddress}
use Rattle.desk_text.specs.declared.value.Field.{Field}
use Rattle.desk_text.specs.declared.value.Field.TheVariants as fields
use Rattle.desk_text.specs.declared.value.Value.{Value}
use Rattle.desk_text.specs.declared.value.Value.TheVariants as values
use Rattle.desk_text.specs.Words.{◌>>=◌, word_at, value_or}
use Rattle.desk_text.specs.Numbers.{decimal_of}
use Rattle.rtp_codec.specs.Address.{address_text}
use Rattle.desk_text.specs.Addresses.{address_of, IsAddress}
use Rattle.desk_text.specs.Kinds.{codec_text, codec_of, media_text, media_of}

-- the field that a value is of
abbrev pub field_of : Value → Field
field_of (values.U16 n) = fields.U16
field_of (values.U32 n) = fields.U32
field_of (values.U64 n) = fields.U64
field_of (values.Operator n) = fields.Operator
field_of (values.Address address) = fields.Address
field_of (values.Codec codec) = fields.Codec
field_of (values.Media media) = fields.Media

-- how a value is written
abbrev pub value_text : Value → List ℕ
value_text (values.U16 n) = decimal n
value_text (values.U32 n) = decimal n
value_text (values.U64 n) = decimal n
value_text (values.Operator n) = decimal n
value_text (values.Address address) = address_text address
value_text (values.Codec codec) = codec_text codec
value_text (values.Media media) = media_text media

-- operators have the numbers from 0 to 15 (own)
abbrev pub last_operator : ℕ
last_operator = 15

-- the value of a row's field
abbrev pub of_row : RowValue → Value
of_row (held.U16 n) = values.U16 n
of_row (held.U32 n) = values.U32 n
of_row (held.Address address) = values.Address address
of_row (held.Codec codec) = values.Codec codec
of_row (held.Media media) = values.Media media

-- the value of a row's field that a value is, or a number 0
abbrev pub in_row : Value → RowValue
in_row (values.U16 n) = held.U16 n
in_row (values.U32 n) = held.U32 n
in_row (values.U64 n) = held.U32 0
in_row (values.Operator n) = held.U32 0
in_row (values.Address address) = held.Address address
in_row (values.Codec codec) = held.Codec codec
in_row (values.Media media) = held.Media media

-- the numbers of a value are in range
abbrev pub Fits : Value → Type 0
Fits (values.U16 n) = n ≤ 65535
Fits (values.U32 n) = n ≤ 4294967295
Fits (values.U64 n) = n ≤ 18446744073709551615
Fits (values.Operator n) = n ≤ last_operator
Fits (values.Address address) = IsAddress address
Fits (values.Codec codec) = Unit {0}
Fits (values.Media media) = Unit {0}

-- those of all values
abbrev pub AllFit : List Value → Type 0
AllFit [] = Unit {0}
AllFit (value ∷ values) = Fits value × AllFit values

-- the value of a field that a word spells
abbrev pub value_of : Field → List ℕ → Option Value
value_of fields.U16 word = option_map values.U16 (decimal_of 65535 word)
value_of fields.U32 word = option_map values.U32 (decimal_of 4294967295 word)
value_of fields.U64 word = option_map values.U64 (decimal_of 18446744073709551615 word)
value_of fields.Operator word = option_map values.Operator (decimal_of last_operator word)
value_of fields.Address word = option_map values.Address (address_of word)
value_of fields.Codec word = option_map values.Codec (codec_of word)
value_of fields.Media word = option_map values.Media (media_of word)

-- what is wrong with a word that spells no value of a field
abbrev pub fault_of : Field → Fault
fault_of fields.U16 = BadNumber
fault_of fields.U32 = BadNumber
fault_of fields.U64 = BadNumber
fault_of fields.Operator = BadNumber
fault_of fields.Address = BadAddress
fault_of fields.Codec = UnknownWord
fault_of fields.Media = UnknownWord

-- the values of fields that words spell from this place on, and the words behind them; or the first fault and its place
unfoldable pub values_of : ℕ → List Field → List (List ℕ) → Result (List Value × List (List ℕ)) (ℕ × Fault)
values_of place [] words = Ok ([], words)
values_of place (field ∷ shape) words = do
  word ← word_at place words
  value ← value_or place (fault_of field) (value_of field word.0)
  others ← values_of (place + 1) shape word.1
  Ok (value ∷ others.0, others.1)

-- the value at a place, or a number 0 where there is none
abbrev pub value_at : ℕ → List Value → Value
value_at place vs = slice_index_or vs place (values.U64 0)

-- the number that a value is, or 0
abbrev pub number_in : Value → ℕ
number_in (values.U16 n) = n
number_in (values.U32 n) = n
number_in (values.U64 n) = n
number_in (values.Operator n) = n
number_in (values.Address address) = 0
number_in (values.Codec codec) = 0
number_in (values.Media media) = 0

-- the address that a value is, or that of no octets
abbrev pub address_in : Value → Address
address_in (values.Address address) = address
address_in value = record { ip = []; port = 0 }

-- the number at this place, else 0
abbrev pub number_at : ℕ → List Value → ℕ
number_at place vs = number_in (value_at place vs)

-- the address at this place, else that of no value
abbrev pub address_at : ℕ → List Value → Address
address_at place vs = address_in (value_at place vs)
