-- Commands that are cut into groups. No public clause cites this.
use Rattle.std.specs.Prelude.{◌≡◌, ◌+◌, ◌*◌, ◌<◌, ◌++◌, true, List, length}
use Rattle.desk_edit.specs.declared.command.Command.{Command}
use Rattle.desk_groups.specs.Making.{made_limit, in_a_row, are_sized}

-- groups so far, and the commands that are left
pub record SoFar (commands : List Command) (groups : List (List Command)) (left : List Command) : Type 0 where
  pub all : in_a_row groups ++ left ≡ commands
  pub sized : are_sized groups ≡ true
  pub full : 0 < length left → length (in_a_row groups) ≡ made_limit * length groups
  pub few : made_limit * length groups < length (in_a_row groups) + made_limit
