-- Members that stand one behind another, exchanged for others (own).
use Rattle.std.specs.Prelude.{◌≡◌, ℕ, ◌+◌, List, [], ◌∷◌, ◌++◌, length}
use Rattle.desk_rows.specs.declared.row.Row.{Row}
use Rattle.desk_rows.specs.declared.row.Member.{Member}
use Rattle.desk_rows.specs.declared.edit.Placed.{Placed}
use Rattle.desk_rows.specs.Order.{without_rows}
use Rattle.desk_rows.specs.Edit.{EditOf}

-- members with their places, which count from n
abbrev pub placed_from : ℕ → List Member → List Placed
placed_from n [] = []
placed_from n (m ∷ ms) = record { place = n; row = m } ∷ placed_from (n + 1) ms

-- the edit that takes members and puts others, and takes and puts the other rows that are in one desk alone
abbrev pub between : List Placed → List Placed → List Row → List Row → EditOf
between taken put before behind = record {
  taken = record { members = taken; others = without_rows behind before };
  put = record { members = put; others = without_rows before behind };
  replaced = record { old = []; new = [] };
}

-- between members that both lists begin with and members that both end with, these go from the first and come in the
-- second
pub record Exchanges (before behind : List Member) (taken put : List Placed) : Type 0 where
  pub front : List Member
  pub gone : List Member
  pub come : List Member
  pub back : List Member
  pub first : before ≡ front ++ (gone ++ back)
  pub second : behind ≡ front ++ (come ++ back)
  pub takes : taken ≡ placed_from (length front) gone
  pub puts : put ≡ placed_from (length front) come
