-- The lines of a script (own): LF ends a line, a CR before it is dropped, and so does the end of the input.
use Rattle.std.specs.Prelude.{ℕ, ◌==◌, ◌&&◌, Bool, nat_le, List, [], ◌∷◌, take, codes, if◌then◌else◌}
use Rattle.std.specs.List.{slice_split}
use Rattle.std.specs.Str.{bytes_eq}
use Rattle.std.specs.Str.Lines.{strip_carriage_return}

-- how many octets a line has at most that hands the lane no item, its CR and LF not counted
abbrev pub line_limit : ℕ
line_limit = 65536

-- how many octets a line has at most that hands the lane an item: 2^23
abbrev pub item_limit : ℕ
item_limit = 8388608

-- how many octets this line has at most: its first five say whether it hands the lane an item
abbrev pub limit_of : List ℕ → ℕ
limit_of line = if bytes_eq (take 5 line) (codes "item ") then item_limit else line_limit

-- an octet that a line may hold: 32 to 126, what ASCII prints
abbrev pub is_printable : ℕ → Bool
is_printable octet = nat_le 32 octet && nat_le octet 126

-- what stands between the LFs (10) of a text; the last part is behind the last LF, and may be empty
abbrev pub parts_of : List ℕ → List (List ℕ)
parts_of text = slice_split (λ b. b == 10) text

-- the lines of these parts, where `last` says which lines the part behind the last LF makes
abbrev pub lines_by : (List ℕ → List (List ℕ)) → List (List ℕ) → List (List ℕ)
lines_by last [] = []
lines_by last (part ∷ []) = last part
lines_by last (part ∷ next ∷ parts) = strip_carriage_return part ∷ lines_by last (next ∷ parts)

-- the end of the input ends a line
abbrev pub whole : List ℕ → List (List ℕ)
whole part = part ∷ []

-- a line that has not ended is none
abbrev pub ended : List ℕ → List (List ℕ)
ended part = []

-- all lines of a text
abbrev pub lines_of : List ℕ → List (List ℕ)
lines_of text = lines_by whole (parts_of text)

-- the lines of a text that an LF ends
abbrev pub ended_lines : List ℕ → List (List ℕ)
ended_lines text = lines_by ended (parts_of text)
