-- The bridge's answers to queries as JSON (own; the text is that of RFC 8259).
use Rattle.std.specs.Prelude.{◌≡◌, ℕ, Bool, if◌then◌else◌, List, [], ◌∷◌, ◌++◌, codes, length, take, drop}
use Rattle.std.specs.Prelude.{Option, Some, None}
use Rattle.std.specs.List.{flat_map}
use Rattle.std.specs.Str.{bytes_eq}
use Rattle.json.specs.Token.{Token, begin_object, end_object, begin_array, end_array, key, string, number, null}
use Rattle.json.specs.Print.{print}
use Rattle.json.specs.Written.{Written}
use Rattle.desk_http.specs.declared.rows.RowField.{RowField}
use Rattle.desk_http.specs.declared.rows.HistoryPart.{HistoryPart}
use Rattle.desk_http.specs.declared.rows.HistoryPart.TheVariants.{All, Done, Undone}
use Rattle.desk_http.specs.declared.rows.RowKind.{RowKind}
use Rattle.desk_http.specs.declared.rows.RowKind.TheVariants.{Named, Numbered}
use Rattle.desk_http.specs.declared.rows.RowShape.{RowShape}
use Rattle.desk_http.specs.Readings.{words_of, leading_word, word_place, found}
use Rattle.desk_http.specs.Metrics.{is_number}
use Rattle.desk_http.specs.ZeroLines.{whole_lines}

-- a text as a value: a number, nothing for `-`, or else a string
abbrev pub text_token : List ℕ → Token
text_token text =
    if bytes_eq text (codes "-") then null else if is_number text then number text else string text

-- a text as a value, or nothing
abbrev pub value_token : Option (List ℕ) → Token
value_token None = null
value_token (Some text) = text_token text

-- a field of a line with these words
abbrev pub field_tokens : List ℕ → List (List ℕ) → RowField → List Token
field_tokens line words field = key field.name.now ∷ value_token (found field.place line words) ∷ []

-- a line with these words as an object
abbrev pub object_tokens : List RowField → List ℕ → List (List ℕ) → List Token
object_tokens fields line words = begin_object ∷ (flat_map (field_tokens line words) fields ++ end_object ∷ [])

-- a line with this first word is of the kind
abbrev pub begins_row : RowKind → List ℕ → Bool
begins_row (Named word) first = bytes_eq first word.now
begins_row Numbered first = is_number first

-- a line as an object, if it is of the kind
abbrev pub row_tokens : RowShape → List ℕ → List Token
row_tokens shape line =
    if begins_row shape.kind (leading_word line) then object_tokens shape.fields.now line (words_of line) else []

-- the first line that is of the kind as an object, or nothing
abbrev pub first_tokens : RowShape → List (List ℕ) → List Token
first_tokens shape [] = null ∷ []
first_tokens shape (line ∷ lines) =
    if begins_row shape.kind (leading_word line) then object_tokens shape.fields.now line (words_of line)
    else first_tokens shape lines

-- all lines that are of the kind, as an array
abbrev pub list_tokens : RowShape → List (List ℕ) → List Token
list_tokens shape lines = begin_array ∷ (flat_map (row_tokens shape) lines ++ end_array ∷ [])

-- where a line stands, or else how many lines there are
abbrev pub place_or : ℕ → Option ℕ → ℕ
place_or length None = length
place_or length (Some at) = at

-- where the line `undone` stands, or else how many lines there are
abbrev pub undone_at : List (List ℕ) → ℕ
undone_at lines = place_or (length lines) (word_place (codes "undone") lines)

-- a part of the lines
abbrev pub lines_in_part : HistoryPart → List (List ℕ) → List (List ℕ)
lines_in_part All lines = lines
lines_in_part Done lines = take (undone_at lines) lines
lines_in_part Undone lines = drop (undone_at lines) lines

-- the lines of a shape, under its key
abbrev pub shape_tokens : List (List ℕ) → RowShape → List Token
shape_tokens lines shape =
    key shape.key.now
    ∷ (if shape.is_list then list_tokens shape (lines_in_part shape.part lines)
    else first_tokens shape (lines_in_part shape.part lines))

-- an answer of the bridge as an object
abbrev pub document_tokens : List RowShape → List ℕ → List Token
document_tokens shapes text = begin_object ∷ (flat_map (shape_tokens (whole_lines text)) shapes ++ end_object ∷ [])

-- an answer of the bridge as JSON
abbrev pub json_text : List RowShape → List ℕ → List ℕ
json_text shapes text = print (document_tokens shapes text)

-- these tokens were written behind the others
abbrev pub Appends : Written → Written → List Token → Type 0
Appends old new tokens = (new.tokens ≡ old.tokens ++ tokens) × (new.before ≡ old.before)
