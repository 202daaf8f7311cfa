-- Groups of commands that make the rows of a desk again (own).
use Rattle.std.specs.Prelude.{◌≡◌, ℕ, ◌+◌, ◌*◌, ◌<◌, Bool, true, ◌&&◌, List, [], ◌∷◌, ◌++◌, map, length, fold, None}
use Rattle.std.specs.Prelude.{nat_lt, nat_le}
use Rattle.std.specs.List.{list_all}
use Rattle.std.specs.declared.vec.Vec.{Vec}
use Rattle.desk_rows.specs.declared.row.Row.{Row}
use Rattle.desk_rows.specs.declared.row.Row.TheVariants as rows
use Rattle.desk_rows.specs.Order.{with_rows}
use Rattle.desk_rows.specs.Desk.{Desk, blank, rows_of}
use Rattle.desk_edit.specs.declared.command.Command.{Command}
use Rattle.desk_edit.specs.declared.command.Command.TheVariants as commands
use Rattle.desk_edit.specs.Groups.{desk_after_all, group_refused}

-- the most commands of a group that is made: with so many the longest ones fit on a line of 4,096 octets
abbrev pub made_limit : ℕ
made_limit = 45

-- the command that puts a row
abbrev pub command_for : Row → Command
command_for (rows.Room r) = commands.AddRoom r
command_for (rows.Member m) = commands.AddMember m
command_for (rows.Source s) = commands.AddSource s
command_for (rows.Slot s) = commands.AddSlot s
command_for (rows.Sub s) = commands.Subscribe s
command_for (rows.Mute m) = commands.Mute m
command_for (rows.Gain g) = commands.SetGain g
command_for (rows.Pin p) = commands.Pin p
command_for (rows.Floor f) = commands.GiveFloor f

-- the desk with the rows of another too: its members stand behind those that are there
abbrev pub united : Desk → Desk → Desk
united d more = record d { members = d.members ++ more.members; others = with_rows more.others d.others }

-- each group is accepted on the desk that those before it leave
abbrev pub AcceptsGroups : Desk → List (List Command) → Type 0
AcceptsGroups d [] = Unit {0}
AcceptsGroups d (group ∷ groups) = (group_refused d group ≡ None) × AcceptsGroups (desk_after_all d group) groups

-- the desk after groups, one after another
abbrev pub desk_after_groups : Desk → List (List Command) → Desk
desk_after_groups d groups = fold desk_after_all d groups

-- the groups as lists of commands
abbrev pub lists_of : {A : Type 0} → List (Vec Command A) → List (List Command)
lists_of groups = map (λ group. group.items) groups

-- the groups, one behind another
abbrev pub in_a_row : List (List Command) → List Command
in_a_row [] = []
in_a_row (group ∷ groups) = group ++ in_a_row groups

-- a group has a command at least, and no more than the limit
abbrev pub are_sized : List (List Command) → Bool
are_sized groups = list_all (λ group. nat_lt 0 (length group) && nat_le (length group) made_limit) groups

-- so many commands are in as few groups as they take
abbrev pub IsFew : ℕ → List (List Command) → Type 0
IsFew count groups = (length (in_a_row groups) ≡ count) × (made_limit * length groups < count + made_limit)

-- these commands in their order, in as few groups as they take
pub record AreGroupsOf (commands : List Command) (groups : List (List Command)) : Type 0 where
  pub all : in_a_row groups ≡ commands
  pub sized : are_sized groups ≡ true
  pub few : IsFew (length commands) groups

-- A desk without rows accepts these groups, one after another, and is this desk then, its members in their order. There
-- is a command for each row, and there are as few groups as fit on lines.
pub record MakeAgain (d : Desk) (groups : List (List Command)) : Type 0 where
  pub accepted : AcceptsGroups (blank d.bridge_ssrc) groups
  pub again : desk_after_groups (blank d.bridge_ssrc) groups ≡ d
  pub sized : are_sized groups ≡ true
  pub few : IsFew (length (rows_of d)) groups
