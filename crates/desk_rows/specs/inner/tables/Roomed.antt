-- Members listed once more by their rooms. No public clause cites it.
use Rattle.std.specs.Prelude.{◌≡◌, Bool, true, List, count_by}
use Rattle.desk_rows.specs.declared.row.Member.{Member}
use Rattle.desk_rows.specs.inner.tables.Grouped.{stand_by, in_turn}

-- a table of these members: by room and in a room by number, and each test is passed by as many
pub record IsByRoom (members table : List Member) : Type 0 where
  pub order : stand_by (in_turn (λ m. m.room) (λ m. m.member)) table ≡ true
  pub same : (p : Member → Bool) → count_by p table ≡ count_by p members
