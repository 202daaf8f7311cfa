-- What is shown of a desk (own): a line for each row, by kind and within a kind by key, members by place.
use Rattle.std.specs.Prelude.{ℕ, ◌+◌, nat_eq, List, [], ◌∷◌, ◌++◌, map, take, codes, if◌then◌else◌}
use Rattle.std.specs.List.{flat_map}
use Rattle.desk_rows.specs.declared.row.Row.{Row}
use Rattle.desk_rows.specs.declared.row.Row.TheVariants.{Room, Member}
use Rattle.desk_rows.specs.declared.key.Kind.{Kind}
use Rattle.desk_rows.specs.declared.key.Kind.TheVariants as kinds
use Rattle.desk_rows.specs.declared.values.RowValue.{RowValue}
use Rattle.desk_rows.specs.Row.{kind_of, key_of}
use Rattle.desk_rows.specs.Values.{row_values}
use Rattle.desk_rows.specs.Desk.{Desk, rows_of_kind}
use Rattle.desk_text.specs.declared.value.Value.TheVariants.{U64}
use Rattle.desk_text.specs.Values.{of_row}
use Rattle.desk_text.specs.Text.{Word, fixed, value, line_text}

-- the first word of the line of a row of a kind
abbrev pub kind_word : Kind → List ℕ
kind_word kinds.Room = codes "room"
kind_word kinds.Member = codes "member"
kind_word kinds.Source = codes "source"
kind_word kinds.Slot = codes "slot"
kind_word kinds.Sub = codes "sub"
kind_word kinds.Mute = codes "mute"
kind_word kinds.Gain = codes "gain"
kind_word kinds.Pin = codes "pin"
kind_word kinds.Floor = codes "floor"

-- the word of a row's place among those of its kind, which is told of members alone
abbrev pub place_words : ℕ → Row → List Word
place_words place (Member m) = value (U64 place) ∷ []
place_words place r = []

-- the values that are shown of a row: a room's rate, its second value, is left out where it is 8000 Hz
abbrev pub shown_values : Row → List RowValue
shown_values (Room r) = if nat_eq r.rate 8000 then take 1 (row_values (Room r)) else row_values (Room r)
shown_values r = row_values r

-- the word of a row's value
abbrev pub row_word : RowValue → Word
row_word v = value (of_row v)

-- the words of a row that stands at this place among those of its kind
abbrev pub row_words : ℕ → Row → List Word
row_words place r =
    fixed (kind_word (kind_of (key_of r))) ∷ place_words place r ++ map row_word (shown_values r)

-- the lines of rows of one kind, from this place on
abbrev pub rows_text : ℕ → List Row → List ℕ
rows_text place [] = []
rows_text place (r ∷ rs) = line_text (row_words place r) ++ rows_text (place + 1) rs

-- the lines of a desk's rows of a kind
abbrev pub kind_lines : Desk → Kind → List ℕ
kind_lines d kind = rows_text 0 (rows_of_kind kind d)

-- all kinds, in the order in which they are shown
abbrev pub all_kinds : List Kind
all_kinds =
    kinds.Room
    ∷ kinds.Member
    ∷ kinds.Source
    ∷ kinds.Slot
    ∷ kinds.Sub
    ∷ kinds.Mute
    ∷ kinds.Gain
    ∷ kinds.Pin
    ∷ kinds.Floor
    ∷ []

-- what is shown: the rows of the desk, and last its version
abbrev pub show_text : Desk → ℕ → List ℕ
show_text d version = flat_map (kind_lines d) all_kinds ++ line_text (fixed (codes "end") ∷ value (U64 version) ∷ [])
