-- Which rows edits bring and take (own).
use Rattle.std.specs.Prelude.{Bool, false, not, ◌||◌, List, [], ◌∷◌, if◌then◌else◌}
use Rattle.std.specs.List.{list_any}
use Rattle.desk_rows.specs.declared.key.Key.{Key}
use Rattle.desk_rows.specs.declared.row.Row.TheVariants.{Member}
use Rattle.desk_rows.specs.Row.{has_key}
use Rattle.desk_rows.specs.Edit.{EditOf}

-- one of two holds, and not both
abbrev pub differ : Bool → Bool → Bool
differ a b = if a then not b else b

-- the edit takes a row of this key
abbrev pub takes_key : EditOf → Key → Bool
takes_key e key =
    list_any (λ p. has_key key (Member p.row)) e.taken.members
    || (list_any (has_key key) e.taken.others || list_any (has_key key) e.replaced.old)

-- the edit puts a row of this key
abbrev pub puts_key : EditOf → Key → Bool
puts_key e key =
    list_any (λ p. has_key key (Member p.row)) e.put.members
    || (list_any (has_key key) e.put.others || list_any (has_key key) e.replaced.new)

-- edits, one after another, bring the row of this key or take it
abbrev pub bring_or_take : List EditOf → Key → Bool
bring_or_take [] key = false
bring_or_take (e ∷ es) key = differ (differ (takes_key e key) (puts_key e key)) (bring_or_take es key)
