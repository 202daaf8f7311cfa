-- What depends on a row: the least relation through what rows name.
use Rattle.std.specs.Prelude.{◌≡◌, ℕ, zero, suc, Bool, true, ◌&&◌, ◌||◌, not, filter}
use Rattle.std.specs.List.{list_any}
use Rattle.desk_rows.specs.declared.row.Row.{Row}
use Rattle.desk_rows.specs.declared.row.Row.TheVariants as rows
use Rattle.desk_rows.specs.declared.key.Key.{Key}
use Rattle.desk_rows.specs.Row.{has_key, names}
use Rattle.desk_rows.specs.Desk.{Desk, rows_of, holds}

-- the first row names the second
abbrev pub Names : Row → Row → Type 0
Names r s = list_any (λ key. has_key key s) (names r) ≡ true

-- the first row depends on the second: it names it, or it names a row of the desk that depends on it
pub data Depends (d : Desk) : Row → Row → Type 0 where
  direct : (r s : Row) → Names r s → Depends d r s
  through : (r t s : Row) → Names r t → holds d t ≡ true → Depends d t s → Depends d r s

-- the row depends on one of the desk that has this key
abbrev pub IsDependent : Desk → Key → Row → Type 0
IsDependent d key r = (s : Row) × (holds d s ≡ true) × (has_key key s ≡ true) × Depends d r s

-- the row of this key, and what depends on it through at most so many rows between
abbrev pub goes_within : ℕ → Desk → Key → Row → Bool
goes_within zero d key r = has_key key r
goes_within (suc n) d key r =
    has_key key r || list_any (λ k. list_any (λ s. has_key k s && goes_within n d key s) (rows_of d)) (names r)

-- what goes with the row of this key: a sub names a slot, a slot a member, a member a room, so three steps are all
-- there are
abbrev pub goes_with : Desk → Key → Row → Bool
goes_with d key r = goes_within 3 d key r

-- the desk without the row of this key and without all that depends on it
abbrev pub without : Desk → Key → Desk
without d key = record d {
  members = filter (λ m. not (goes_with d key (rows.Member m))) d.members;
  others = filter (λ r. not (goes_with d key r)) d.others;
}
