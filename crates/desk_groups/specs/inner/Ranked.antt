-- The order in which rows are made. No public clause cites it.
use Rattle.std.specs.Prelude.{◌≡◌, ℕ, Bool, true, ◌&&◌, List, [], ◌∷◌, ◌++◌, map, filter, nat_le, None}
use Rattle.desk_rows.specs.declared.row.Member.{Member}
use Rattle.std.specs.List.{list_all}
use Rattle.desk_rows.specs.declared.row.Row.{Row}
use Rattle.desk_rows.specs.declared.row.Row.TheVariants as rows
use Rattle.desk_rows.specs.declared.key.Kind.{Kind}
use Rattle.desk_rows.specs.declared.key.Kind.TheVariants as kinds
use Rattle.desk_rows.specs.Row.{kind_of, key_of}
use Rattle.desk_rows.specs.Kinds.{is_of}
use Rattle.desk_rows.specs.Desk.{Desk}
use Rattle.desk_edit.specs.declared.command.Command.{Command}
use Rattle.desk_edit.specs.Refusals.{reason_against}
use Rattle.desk_edit.specs.Commands.{desk_after}
use Rattle.desk_edit.specs.inner.Levels.{level}

-- how many rows there can be below a row
abbrev pub level_of : Row → ℕ
level_of r = level (kind_of (key_of r))

-- no row stands above one behind it
abbrev pub levels_rise : List Row → Bool
levels_rise [] = true
levels_rise (r ∷ rs) = list_all (λ x. nat_le (level_of r) (level_of x)) rs && levels_rise rs

-- rows kind by kind
abbrev pub kind_by_kind : List Kind → List Row → List Row
kind_by_kind [] rs = []
kind_by_kind (kind ∷ ks) rs = filter (is_of kind) rs ++ kind_by_kind ks rs

-- the kinds that are made behind the members
abbrev pub later_kinds : List Kind
later_kinds =
    kinds.Source ∷ kinds.Slot ∷ kinds.Sub ∷ kinds.Mute ∷ kinds.Gain ∷ kinds.Pin ∷ kinds.Floor ∷ []

-- the rows of a desk, each behind those that it names: rooms, members in joining order, and then kind by kind
abbrev pub in_making_order : Desk → List Row
in_making_order d =
    filter (is_of kinds.Room) d.others ++ (map rows.Member d.members ++ kind_by_kind later_kinds d.others)

-- the members among rows
abbrev pub members_among : List Row → List Member
members_among [] = []
members_among (rows.Member m ∷ rs) = m ∷ members_among rs
members_among (r ∷ rs) = members_among rs

-- nothing stands against each command on the desk that those before it leave
abbrev pub AcceptsAll : Desk → List Command → Type 0
AcceptsAll d [] = Unit {0}
AcceptsAll d (command ∷ commands) =
    (reason_against d command ≡ None) × AcceptsAll (desk_after d command) commands

-- these rows in a desk
abbrev pub these : List Member → List Row → Desk
these members others = record { bridge_ssrc = 0; members = members; others = others }
