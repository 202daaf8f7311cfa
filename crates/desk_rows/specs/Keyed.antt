-- Desks in which a key finds one row at most.
use Rattle.std.specs.Prelude.{◌≡◌, ◌≤◌, true, not, count_by}
use Rattle.std.specs.List.{list_all}
use Rattle.desk_rows.specs.declared.key.Key.{Key}
use Rattle.desk_rows.specs.declared.key.Kind.TheVariants as kinds
use Rattle.desk_rows.specs.Row.{has_key}
use Rattle.desk_rows.specs.Kinds.{is_of}
use Rattle.desk_rows.specs.Desk.{Desk, rows_of}

-- no two rows have one key, and no row beside the members is a member's
pub record IsKeyed (d : Desk) : Type 0 where
  pub once : (key : Key) → count_by (has_key key) (rows_of d) ≤ 1
  pub plain : list_all (λ r. not (is_of kinds.Member r)) d.others ≡ true
