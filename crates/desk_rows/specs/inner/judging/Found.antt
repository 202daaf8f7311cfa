-- What is asked of the row that a key finds. No public clause cites this.
use Rattle.std.specs.Prelude.{ℕ, Bool, false, not, nat_eq, Option, None, Some}
use Rattle.desk_rows.specs.declared.row.Row.{Row}
use Rattle.desk_rows.specs.declared.row.Row.TheVariants.{Member}

-- a row is found, and passes
abbrev pub finds : (Row → Bool) → Option Row → Bool
finds p None = false
finds p (Some r) = p r

-- a member of another room than this one
abbrev pub is_elsewhere : ℕ → Row → Bool
is_elsewhere room (Member m) = not (nat_eq m.room room)
is_elsewhere room _ = false
