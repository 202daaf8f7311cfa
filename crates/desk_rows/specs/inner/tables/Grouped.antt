-- Rows of one kind, listed once more in groups. No public clause cites it.
use Rattle.std.specs.Prelude.{◌≡◌, ℕ, Bool, true, false, ◌&&◌, ◌||◌, List, [], ◌∷◌, count_by, nat_eq, nat_lt, nat_le}
use Rattle.std.specs.Prelude.{Option, None, Some}
use Rattle.std.specs.List.{list_all}
use Rattle.desk_rows.specs.declared.row.Row.{Row}

-- each element may stand before all behind it
abbrev pub stand_by : {X : Type 0} → (X → X → Bool) → List X → Bool
stand_by may [] = true
stand_by may (x ∷ xs) = list_all (may x) xs && stand_by may xs

-- the order of groups, and within a group of turns
abbrev pub in_turn : {X : Type 0} → (X → ℕ) → (X → ℕ) → X → X → Bool
in_turn group turn x y = nat_lt (group x) (group y) || (nat_eq (group x) (group y) && nat_le (turn x) (turn y))

-- there is one, and it passes
abbrev pub passes_if : {X : Type 0} → (X → Bool) → Option X → Bool
passes_if p None = false
passes_if p (Some x) = p x

-- what is in a row passes
abbrev pub passes_in : {X : Type 0} → (Row → Option X) → (X → Bool) → Row → Bool
passes_in in_row p r = passes_if p (in_row r)

-- a table of what is in these rows: in order, and each test is passed by as many
pub record IsTableOf {X : Type 0} (in_row : Row → Option X) (group turn : X → ℕ) (rows : List Row)
    (table : List X) : Type 0 where
  pub order : stand_by (in_turn group turn) table ≡ true
  pub same : (p : X → Bool) → count_by p table ≡ count_by (passes_in in_row p) rows
