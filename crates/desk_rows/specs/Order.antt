-- The one order of rows: by kind, and within a kind by key.
use Rattle.std.specs.Prelude.{Bool, true, false, ◌&&◌, ◌||◌, not, List, [], ◌∷◌, filter, if◌then◌else◌}
use Rattle.std.specs.List.{list_any, list_all}
use Rattle.desk_rows.specs.declared.row.Row.{Row}
use Rattle.desk_rows.specs.declared.key.Key.{Key}
use Rattle.desk_rows.specs.Numbers.{numbers_precede}
use Rattle.desk_rows.specs.Row.{key_numbers, key_of, same_key, same_row}

-- whether a key stands before another
abbrev pub key_precedes : Key → Key → Bool
key_precedes a b = numbers_precede (key_numbers a) (key_numbers b)

-- whether a row stands before another: by their keys
abbrev pub precedes : Row → Row → Bool
precedes a b = key_precedes (key_of a) (key_of b)

-- each row stands before all behind it, so no two have one key
abbrev pub in_order : List Row → Bool
in_order [] = true
in_order (r ∷ rs) = list_all (precedes r) rs && in_order rs

-- the row stands before or behind each of these, so none has its key
abbrev pub key_is_new : Row → List Row → Bool
key_is_new r xs = list_all (λ x. precedes r x || precedes x r) xs

-- two lists in order without a key in common
abbrev pub are_apart : List Row → List Row → Bool
are_apart xs ys = (in_order xs && in_order ys) && list_all (λ y. key_is_new y xs) ys

-- two lists pair rows of one key
abbrev pub have_same_keys : List Row → List Row → Bool
have_same_keys [] [] = true
have_same_keys (x ∷ xs) (y ∷ ys) = same_key (key_of x) (key_of y) && have_same_keys xs ys
have_same_keys _ _ = false

-- whether the row is among these
abbrev pub is_in : List Row → Row → Bool
is_in rs r = list_any (same_row r) rs

-- rows in order with one more
abbrev pub with_row : Row → List Row → List Row
with_row r [] = r ∷ []
with_row r (x ∷ xs) = if precedes r x then r ∷ x ∷ xs else x ∷ with_row r xs

-- rows in order with these too
abbrev pub with_rows : List Row → List Row → List Row
with_rows [] xs = xs
with_rows (r ∷ rs) xs = with_rows rs (with_row r xs)

-- the rows without these
abbrev pub without_rows : List Row → List Row → List Row
without_rows rs xs = filter (λ x. not (is_in rs x)) xs
