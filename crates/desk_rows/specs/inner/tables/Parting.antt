-- A place that parts a list by a test. No public clause cites it.
use Rattle.std.specs.Prelude.{◌≡◌, ℕ, ◌<◌, ◌≤◌, Bool, true, false, List, length, get_or, Option, None, Some}
use Rattle.desk_rows.specs.declared.row.Row.{Row}
use Rattle.desk_rows.specs.Row.{same_row}

-- elements before the place pass and the others fail
abbrev pub Parts : {A : Type 0} (p : A → Bool) (xs : List A) (i : ℕ) → Type 0
Parts {A} p xs i =
    ((k : ℕ) (d : A) → 0 ≤ k → k < i → p (get_or xs k d) ≡ true)
    × ((k : ℕ) (d : A) → i ≤ k → k < length xs → p (get_or xs k d) ≡ false)

-- what was found is this row
abbrev pub is_found_as : Row → Option Row → Bool
is_found_as r None = false
is_found_as r (Some x) = same_row x r
