-- Member rows with places, taken out of a list and put into one.
use Rattle.std.specs.Prelude.{ℕ, zero, suc, ◌+◌, Bool, true, false, ◌&&◌, if◌then◌else◌, List, [], ◌∷◌, length, nat_eq}
use Rattle.std.specs.Prelude.{nat_le, nat_lt, insert, remove, Option, None, Some}
use Rattle.std.specs.Option.{option_map}
use Rattle.std.specs.List.{list_all}
use Rattle.desk_rows.specs.Row.{same_row}
use Rattle.desk_rows.specs.declared.row.Row.TheVariants as rows
use Rattle.desk_rows.specs.declared.row.Member.{Member}
use Rattle.desk_rows.specs.declared.edit.Placed.{Placed}

-- without the rows at these places, which are those of the whole list if they rise
abbrev pub take_at : List Placed → List Member → List Member
take_at [] xs = xs
take_at (p ∷ ps) xs = remove (take_at ps xs) p.place

-- with these rows, each at its place in the list that comes out if places rise
abbrev pub put_at : List Placed → List Member → List Member
put_at [] xs = xs
put_at (p ∷ ps) xs = put_at ps (insert xs p.place p.row)

-- whether this row stands at a place
abbrev pub is_at : List Member → ℕ → Member → Bool
is_at [] i m = false
is_at (x ∷ xs) zero m = same_row (rows.Member x) (rows.Member m)
is_at (x ∷ xs) (suc i) m = is_at xs i m

-- each of these members stands at its place, so that all can be taken from there, the last one first
abbrev pub can_take : List Placed → List Member → Bool
can_take [] xs = true
can_take (p ∷ ps) xs = can_take ps xs && is_at (take_at ps xs) p.place p.row

-- each of these members has a place to be put at, the first one first
abbrev pub can_put : List Placed → List Member → Bool
can_put [] xs = true
can_put (p ∷ ps) xs = nat_le p.place (length xs) && can_put ps (insert xs p.place p.row)

-- each place is above all those before it
abbrev pub places_rise : List Placed → Bool
places_rise [] = true
places_rise (p ∷ ps) = list_all (λ q. nat_lt p.place q.place) ps && places_rise ps

-- the place of the member of this number
abbrev pub place_in : List Member → ℕ → Option ℕ
place_in [] n = None
place_in (m ∷ ms) n = if nat_eq m.member n then Some 0 else option_map (λ place. place + 1) (place_in ms n)
